use Rattle.std.proofs.Common.{arith}
use Rattle.geos_terms.proofs.Lowest.{block-used}
use Rattle.lmem_heap.proofs.room.used_bytes.Goals as goal

pub overflow_sub-result : goal.overflow_sub-result
overflow_sub-result c = omega (arith, block-used c.args.block.now c.requires, c.get16.ensures)

pub returns : goal.returns
returns c = omega (arith, block-used c.args.block.now c.requires, c.get16.ensures)
