use Rattle.vm_blocks.proofs.Walk.{Walks}
use Rattle.vm_blocks.proofs.entries.list.Given as goal

abbrev pub invariant-loop-i : goal.invariant-loop-i
invariant-loop-i l = Walks l.directory.entries.items l.table l.i l.next
