use Rattle.std.proofs.Common.{◌≡◌, drop}
use Rattle.geos_image.specs.Legal.{rows_stand}
use Rattle.geos_image.proofs.image.rows_stand.Given as goal

abbrev pub invariant-loop-pc : goal.invariant-loop-pc
invariant-loop-pc l = rows_stand (drop l.pc l.flags) (drop l.pc l.points) ≡ rows_stand l.flags l.points
