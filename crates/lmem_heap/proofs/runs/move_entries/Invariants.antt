use Rattle.lmem_heap.specs.Moves.{entry_moved, MapsEntries}
use Rattle.lmem_heap.proofs.runs.move_entries.Given as goal

abbrev pub invariant-loop-i : goal.invariant-loop-i
invariant-loop-i l = MapsEntries l.fn.block l.block (entry_moved l.from l.end l.to) 0 l.i
