use Rattle.std.proofs.Common.{◌∙◌, arith}
use Rattle.lmem_heap.proofs.Unwritten.{but-itself}
use Rattle.lmem_heap.proofs.compact.contract.Goals as goal

pub is_compact-requires : goal.is_compact-requires
is_compact-requires c = (c.loop-block.block, but-itself c.loop-block.block c.loop-block.invariant.heap)

pub loop-block-preserved : goal.loop-block-preserved
loop-block-preserved c =
    let k = c.close_gaps.ensures in
    record { heap = k.heap; chunks = k.chunks ∙ c.loop-block.invariant.chunks; handle = k.handle ∙ c.loop-block.invariant.handle }

pub loop-block-smaller : goal.loop-block-smaller
loop-block-smaller c = omega (arith, c.close_gaps.ensures.went, c.close_gaps.ensures.within)
