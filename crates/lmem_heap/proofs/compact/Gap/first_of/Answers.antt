use Rattle.std.proofs.Common.{ℕ, ◌+◌, length, sym, subst, arith}
use Rattle.geos_terms.specs.Bytes.{word}
use Rattle.lmem_heap.specs.Gaps.{HasGap}
use Rattle.lmem_heap.proofs.Opening.{gap_of}
use Rattle.lmem_heap.proofs.Unwritten.{but-first, but-inner, but-last}
use Rattle.lmem_heap.proofs.compact.Gap.first_of.Goals as goal

pub get16-first-requires : goal.get16-first-requires
get16-first-requires c = omega (arith, c.requires.heap.1.long, c.requires.heap.1.is.0.least)

pub get16-size-requires : goal.get16-size-requires
get16-size-requires c = let q = but-first c.args.block.now c.requires.heap.0 c.get16-first.result c.requires.heap.1
    c.requires.not_compact c.get16-first.ensures in omega (arith, q.gap.four, q.gap.within, q.size, q.long)

pub get16-next-requires : goal.get16-next-requires
get16-next-requires c = let q = but-first c.args.block.now c.requires.heap.0 c.get16-first.result c.requires.heap.1
    c.requires.not_compact c.get16-first.ensures in omega (arith, q.gap.four, q.gap.within, q.size, q.long)

pub returns-then-next-eq0 : goal.returns-then-next-eq0
returns-then-next-eq0 c =
    let d = c.args.block.now in
    let f = c.get16-first.result in
    record {
      has = (λ b but. let q = but-first d b f but c.requires.not_compact c.get16-first.ensures in
          subst (λ (x : ℕ). HasGap b (gap_of f x (length d) 0 0)) (sym c.get16-size.ensures)
          (but-last d b f c.get16-next.result but q c.get16-next.ensures c.if-next-eq0.true));
      first = c.get16-first.ensures;
      size = c.get16-size.ensures;
      inner = (let q = but-first d c.requires.heap.0 f c.requires.heap.1 c.requires.not_compact c.get16-first.ensures in
          omega (arith, q.gap.within, q.gap.inner, q.size, q.long, c.get16-size.ensures));
    }

pub get16-more-requires : goal.get16-more-requires
get16-more-requires c =
    let q = but-first c.args.block.now c.requires.heap.0 c.get16-first.result c.requires.heap.1 c.requires.not_compact c.get16-first.ensures in
    omega (
      arith,
      (but-inner c.args.block.now c.requires.heap.0 c.get16-first.result c.get16-next.result c.requires.heap.1
          q c.get16-next.ensures c.if-next-eq0.false).within,
    )

pub get16-after-requires : goal.get16-after-requires
get16-after-requires c =
    let q = but-first c.args.block.now c.requires.heap.0 c.get16-first.result c.requires.heap.1 c.requires.not_compact c.get16-first.ensures in
    omega (
      arith,
      (but-inner c.args.block.now c.requires.heap.0 c.get16-first.result c.get16-next.result c.requires.heap.1
          q c.get16-next.ensures c.if-next-eq0.false).within,
    )

pub returns : goal.returns
returns c =
    let d = c.args.block.now in
    let f = c.get16-first.result in
    let g = c.get16-next.result in
    record {
      has = (λ b but. let q = but-first d b f but c.requires.not_compact c.get16-first.ensures in
          let n = but-inner d b f g but q c.get16-next.ensures c.if-next-eq0.false in
          subst (λ (x : ℕ). HasGap b (gap_of f c.get16-size.result g c.get16-more.result x)) (sym c.get16-after.ensures)
          (subst (λ (x : ℕ). HasGap b (gap_of f c.get16-size.result g x (word d (g + 2)))) (sym c.get16-more.ensures)
          (subst (λ (x : ℕ). HasGap b (gap_of f x g (word d g) (word d (g + 2)))) (sym c.get16-size.ensures) n.gap)));
      first = c.get16-first.ensures;
      size = c.get16-size.ensures;
      inner = (let q = but-first d c.requires.heap.0 f c.requires.heap.1 c.requires.not_compact c.get16-first.ensures in
          omega (
            arith,
            (but-inner d c.requires.heap.0 f g c.requires.heap.1 q c.get16-next.ensures c.if-next-eq0.false).inner,
            c.get16-size.ensures,
          ));
    }
