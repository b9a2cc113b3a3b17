-- What a heap's chunks need.
use Rattle.std.proofs.Common.{ℕ, ◌≤◌, List, length, arith}
use Rattle.geos_terms.specs.Chunks.{need}
use Rattle.geos_terms.specs.Block.{chunks}
use Rattle.geos_terms.specs.Heap.{IsHeap}
use Rattle.geos_terms.proofs.Lowest.{block-used}

-- a block has the size that its chunks need
pub need-fits : (block : List ℕ) → IsHeap block → need (chunks block) ≤ length block
need-fits block heap = omega (arith, block-used block heap, heap.0.sixteens)
