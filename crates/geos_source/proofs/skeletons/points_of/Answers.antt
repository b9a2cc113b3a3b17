use Rattle.std.proofs.Common.{◌∙◌, ap, map}
use Rattle.std.proofs.lemmas.List.{take_all}
use Rattle.geos_source.specs.Skeletons.{blank_point}
use Rattle.geos_source.proofs.skeletons.points_of.Goals as goal

pub returns : goal.returns
returns c = c.loop-instr.invariant ∙ ap (map blank_point) (take_all c.loop-instr.instr-index c.args.instrs.now c.loop-instr-test.false)
