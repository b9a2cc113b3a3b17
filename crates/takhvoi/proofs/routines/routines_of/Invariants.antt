use Rattle.std.proofs.Common.{◌≡◌}
use Rattle.takhvoi.specs.Records.{records_below}
use Rattle.takhvoi.specs.Routines.{routine_in}
use Rattle.takhvoi.proofs.routines.routines_of.Given as goal

abbrev pub invariant-loop-r : goal.invariant-loop-r
invariant-loop-r l = l.routines.items ≡ records_below (routine_in l.image) l.r
