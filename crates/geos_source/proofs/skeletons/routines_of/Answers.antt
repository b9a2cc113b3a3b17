use Rattle.std.proofs.Common.{◌∙◌, ap, map}
use Rattle.std.proofs.lemmas.List.{take_all}
use Rattle.geos_source.specs.Skeletons.{routine_of}
use Rattle.geos_source.proofs.skeletons.routines_of.Goals as goal

pub returns : goal.returns
returns c = c.loop-routine.invariant ∙ ap (map routine_of) (take_all c.loop-routine.routine-index c.args.routines.now c.loop-routine-test.false)
