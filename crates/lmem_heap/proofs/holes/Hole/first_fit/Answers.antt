use Rattle.std.proofs.Common.{ℕ, ◌+◌, ◌≤◌, length, ap, refl, sym, ◌∙◌, subst, inl, inr, arith}
use Rattle.geos_terms.specs.Bytes.{word}
use Rattle.lmem_heap.specs.Holes.{IsOpen, FitsBehind}
use Rattle.lmem_heap.proofs.FreeLists.{heap-open, heap-next, open-fits}
use Rattle.lmem_heap.proofs.holes.Hole.first_fit.Goals as goal

pub loop-next-init : goal.loop-next-init
loop-next-init c = record { is = heap-open c.args.block.now c.requires; next = c.get16-next.ensures; passed = inl refl }

pub get16-requires : goal.get16-requires
get16-requires c =
    let i = c.loop-next.invariant in
    let n = heap-next _ _ i.is (λ z. c.loop-next-test.true (i.next ∙ z)) in
    omega (arith, n.inside, i.next)

pub returns-then-get16-size : goal.returns-then-get16-size
returns-then-get16-size c =
    let b = c.args.block.now in
    let i = c.loop-next.invariant in
    let P : ℕ → Type 0 = λ x. FitsBehind b c.loop-next.link x x c.args.size in
    let size : c.args.size ≤ word b (word b c.loop-next.link) = omega (arith, c.get16.ensures, ap (word b) i.next, c.if-get16-size.true) in
    subst P (sym i.next) (open-fits b c.loop-next.link i.is (λ z. c.loop-next-test.true (i.next ∙ z)) c.args.size size)

pub overflow_add-link : goal.overflow_add-link
overflow_add-link c =
    let i = c.loop-next.invariant in
    let n = heap-next _ _ i.is (λ z. c.loop-next-test.true (i.next ∙ z)) in
    omega (arith, n.inside, i.next, i.is.header.most)

pub get16-next-requires-in-loop-next : goal.get16-next-requires-in-loop-next
get16-next-requires-in-loop-next c =
    let i = c.loop-next.invariant in
    let n = heap-next _ _ i.is (λ z. c.loop-next-test.true (i.next ∙ z)) in
    omega (arith, n.inside, i.next)

pub loop-next-smaller : goal.loop-next-smaller
loop-next-smaller c =
    let i = c.loop-next.invariant in
    let n = heap-next _ _ i.is (λ z. c.loop-next-test.true (i.next ∙ z)) in
    omega (arith, n.inside, n.above, i.next)

pub loop-next-preserved : goal.loop-next-preserved
loop-next-preserved c =
    let b = c.args.block.now in
    let i = c.loop-next.invariant in
    let n = heap-next _ _ i.is (λ z. c.loop-next-test.true (i.next ∙ z)) in
    record {
      is = subst (λ (x : ℕ). IsOpen b (x + 2) (length b) (length b)) (sym i.next) n.is;
      next = c.get16-next-in-loop-next.ensures;
      passed = inr (elim i.passed [
        | inl first ↦ omega (arith, c.get16.ensures, ap (word b) (i.next ∙ ap (word b) first), c.if-get16-size.false)
        | inr less ↦ less
      ]);
    }

pub returns : goal.returns
returns c =
    elim c.loop-next.invariant.passed [
      | inl first ↦ inl (sym (ap (word c.args.block.now) first) ∙ sym c.loop-next.invariant.next
          ∙ c.loop-next-test.false)
      | inr less ↦ inr less
    ]
