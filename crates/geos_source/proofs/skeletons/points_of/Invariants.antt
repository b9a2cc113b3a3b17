use Rattle.std.proofs.Common.{◌≡◌, map, take}
use Rattle.geos_source.specs.Skeletons.{blank_point}
use Rattle.geos_source.proofs.skeletons.points_of.Given as goal

abbrev pub invariant-loop-instr : goal.invariant-loop-instr
invariant-loop-instr l = l.points.items ≡ map blank_point (take l.instr-index l.instrs)
