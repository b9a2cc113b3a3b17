use Rattle.std.proofs.Common.{◌≡◌, length}
use Rattle.geos_counters.proofs.Noting.{NotesWithin, NotesOwnBelow}
use Rattle.geos_counters.proofs.spent.find_touched.Given as goal

-- what the table notes is touched by chains of r routines, and it notes what those before r touch, by what it says of those before each
abbrev pub invariant-loop-r : goal.invariant-loop-r
invariant-loop-r l = NotesWithin l.image l.table l.r × (length l.table ≡ 32) × NotesOwnBelow l.image l.table l.r
