use Rattle.std.proofs.Common.{◌≡◌, ◌-◌, length}
use Rattle.geos_terms.specs.Bytes.{word}
use Rattle.lmem_heap.specs.Holes.{IsOpen}
use Rattle.lmem_heap.proofs.holes.Hole.at.Given as goal

abbrev pub invariant-loop-next : goal.invariant-loop-next
invariant-loop-next l = record {
  is : IsOpen l.block l.link l.at l.end;
  next : l.next ≡ word l.block l.link;
}

abbrev pub decreases-loop-next : goal.decreases-loop-next
decreases-loop-next l = length l.block - l.link
