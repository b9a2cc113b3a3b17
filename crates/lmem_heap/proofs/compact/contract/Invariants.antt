use Rattle.std.proofs.Common.{◌≡◌, ◌-◌, length}
use Rattle.geos_terms.specs.Block.{chunks, first_free, handle_word}
use Rattle.geos_terms.specs.Heap.{IsHeap}
use Rattle.lmem_heap.proofs.compact.contract.Given as goal

abbrev pub invariant-loop-block : goal.invariant-loop-block
invariant-loop-block l = record {
  heap : IsHeap l.block;
  chunks : chunks l.block ≡ chunks l.fn.block;
  handle : handle_word l.block ≡ handle_word l.fn.block;
}

abbrev pub decreases-loop-block : goal.decreases-loop-block
decreases-loop-block l = length l.block - first_free l.block
