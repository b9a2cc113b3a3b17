use Rattle.std.proofs.Common.{◌≡◌, ◌-◌, ◌<◌, ◌⊎◌, length}
use Rattle.geos_terms.specs.Bytes.{word}
use Rattle.geos_terms.specs.Block.{first_free}
use Rattle.lmem_heap.specs.Holes.{IsOpen}
use Rattle.lmem_heap.proofs.holes.Hole.first_fit.Given as goal

abbrev pub invariant-loop-next : goal.invariant-loop-next
invariant-loop-next l = record {
  is : IsOpen l.block l.link (length l.block) (length l.block);
  next : l.next ≡ word l.block l.link;
  passed : (l.link ≡ 12) ⊎ (word l.block (first_free l.block) < l.size);
}

abbrev pub decreases-loop-next : goal.decreases-loop-next
decreases-loop-next l = length l.block - l.link
