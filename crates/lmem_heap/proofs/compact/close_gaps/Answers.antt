use Rattle.lmem_heap.proofs.Batches.{closes-one}
use Rattle.lmem_heap.proofs.compact.close_gaps.Goals as goal

pub returns-then-is_long : goal.returns-then-is_long
returns-then-is_long c =
    closes-one c.args.block.now c.close.new.block c.first_of-gap.result c.requires.heap c.first_of-gap.ensures c.requires.not_compact c.close.ensures
