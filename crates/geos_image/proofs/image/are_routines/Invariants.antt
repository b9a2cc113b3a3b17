use Rattle.std.proofs.Common.{◌≡◌, [], take, drop}
use Rattle.geos_image.specs.Legal.{are_routines}
use Rattle.geos_image.proofs.image.are_routines.Given as goal

-- the routines so far are legal, if the rest is legal after them
abbrev pub invariant-loop-k : goal.invariant-loop-k
invariant-loop-k l = are_routines l.borrows (take l.k l.routines) (drop l.k l.routines) ≡ are_routines l.borrows [] l.routines
