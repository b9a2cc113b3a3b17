use Rattle.std.proofs.Common.{◌≡◌, ◌++◌, take}
use Rattle.std.specs.List.{flat_map}
use Rattle.geos_image.specs.declared.point.Point.{Point}
use Rattle.geos_image.specs.Spelling.{instr}
use Rattle.geos_image.proofs.writer.put_instrs.Given as goal

abbrev pub invariant-loop-point : goal.invariant-loop-point
invariant-loop-point l = l.out.items ≡ l.initial.out.items ++ flat_map (λ (point : Point). instr point.instr) (take l.point-index l.points)
