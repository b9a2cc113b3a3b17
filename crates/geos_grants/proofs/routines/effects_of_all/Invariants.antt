use Rattle.std.proofs.Common.{◌≡◌, length}
use Rattle.geos_grants.specs.Routines.{NotesBelow}
use Rattle.geos_grants.proofs.routines.effects_of_all.Given as goal

-- the table says what the routines below r do
abbrev pub invariant-loop-r : goal.invariant-loop-r
invariant-loop-r l = NotesBelow l.image l.table l.r × (length l.table ≡ 32)
