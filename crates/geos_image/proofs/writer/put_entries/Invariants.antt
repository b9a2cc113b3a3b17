use Rattle.std.proofs.Common.{◌≡◌, ◌++◌, take}
use Rattle.std.specs.List.{flat_map, All}
use Rattle.geos_image.specs.Ranges.{PointFits}
use Rattle.geos_image.specs.Spelling.{told}
use Rattle.geos_image.proofs.writer.put_entries.Given as goal

abbrev pub invariant-loop-point : goal.invariant-loop-point
invariant-loop-point l = (l.out.items ≡ l.initial.out.items ++ flat_map told (take l.point-index l.points))
    × All PointFits (take l.point-index l.points)
