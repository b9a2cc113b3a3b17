use Rattle.std.proofs.Common.{◌≡◌, take}
use Rattle.geos_infer.proofs.inference.routines_of.Given as goal

abbrev pub invariant-loop-r : goal.invariant-loop-r
invariant-loop-r l = l.routines.items ≡ take l.r l.image.routines
