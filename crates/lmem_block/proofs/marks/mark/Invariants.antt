use Rattle.std.proofs.Common.{◌≡◌, ◌≤◌}
use Rattle.lmem_block.specs.Check.{Marks, marks_from}
use Rattle.lmem_block.proofs.marks.mark.Given as goal

abbrev pub invariant-loop-i : goal.invariant-loop-i
invariant-loop-i l = record { so_far : Marks l.block l.i l.starts; counted : l.marks ≡ marks_from l.starts 0; few : l.marks ≤ l.i }
