use Rattle.std.proofs.Common.{◌≡◌, ◌++◌, take}
use Rattle.std.specs.List.{flat_map, All}
use Rattle.geos_image.specs.Ranges.{PotentialFits}
use Rattle.geos_image.specs.declared.point.Point.{Point}
use Rattle.geos_image.specs.Spelling.{potential}
use Rattle.geos_image.proofs.writer.put_potentials.Given as goal

abbrev pub invariant-loop-point : goal.invariant-loop-point
invariant-loop-point l = (l.out.items ≡ l.initial.out.items ++ flat_map (λ (point : Point). potential point.potential) (take l.point-index l.points))
    × All (λ (point : Point). PotentialFits point.potential) (take l.point-index l.points)
