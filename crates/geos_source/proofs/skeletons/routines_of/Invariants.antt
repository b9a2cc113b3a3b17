use Rattle.std.proofs.Common.{◌≡◌, map, take}
use Rattle.geos_source.specs.Skeletons.{routine_of}
use Rattle.geos_source.proofs.skeletons.routines_of.Given as goal

abbrev pub invariant-loop-routine : goal.invariant-loop-routine
invariant-loop-routine l = l.made.items ≡ map routine_of (take l.routine-index l.routines)
