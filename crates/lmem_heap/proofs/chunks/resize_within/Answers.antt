use Rattle.std.proofs.Common.{◌≡◌, ℕ, ◌+◌, replicate, subst, arith}
use Rattle.lmem_raw.specs.Bytes.{with_part}
use Rattle.geos_terms.proofs.Costs.{cost-least}
use Rattle.lmem_heap.proofs.Extending.{heap-extent}
use Rattle.lmem_heap.proofs.Relengthening.{relengthened}
use Rattle.lmem_heap.proofs.chunks.resize_within.Goals as goal

pub of-chunk-requires : goal.of-chunk-requires
of-chunk-requires c = heap-extent c.args.block.now c.args.i c.requires.heap c.requires.known c.requires.offset

pub overflow_add-n : goal.overflow_add-n
overflow_add-n c =
    let k = c.of-chunk.ensures in
    omega (arith, cost-least c.args.n c.requires.some, c.requires.same, k.entry, k.end, k.high)

pub clear-requires : goal.clear-requires
clear-requires c =
    let k = c.of-chunk.ensures in
    omega (
      arith,
      cost-least c.args.n c.requires.some,
      c.requires.same,
      k.entry,
      k.end,
      k.high,
      k.wide,
      c.saturating_sub-more.ensures,
      c.put16.auto.block,
    )

pub returns : goal.returns
returns c =
    let x = c.of-chunk.result in
    relengthened c.args.block.now c.put16.new.block c.clear.new.block c.args.i c.args.n x c.requires.heap c.requires.known
    c.requires.offset c.of-chunk.ensures c.requires.some c.requires.same c.put16.ensures
    (subst (λ (m : ℕ). c.clear.new.block ≡ with_part c.put16.new.block (x.begin + 2 + x.len) (replicate m 0))
    c.saturating_sub-more.ensures c.clear.ensures)
