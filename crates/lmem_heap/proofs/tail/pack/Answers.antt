use Rattle.lmem_heap.proofs.PackedHeaps.{heap-packed}
use Rattle.lmem_heap.proofs.tail.pack.Goals as goal

pub returns-clause-packed : goal.returns-clause-packed
returns-clause-packed c = heap-packed c.contract.new.block c.contract.ensures.heap c.contract.ensures.compact
