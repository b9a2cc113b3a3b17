use Rattle.std.proofs.Common.{◌≡◌, ◌++◌, take}
use Rattle.std.specs.List.{flat_map, All}
use Rattle.geos_image.specs.Ranges.{RoutineFits}
use Rattle.geos_image.specs.Spelling.{routine}
use Rattle.geos_image.proofs.writer.put_routines.Given as goal

abbrev pub invariant-loop-r : goal.invariant-loop-r
invariant-loop-r l = (l.out.items ≡ l.initial.out.items ++ flat_map routine (take l.r-index l.routines)) × All RoutineFits (take l.r-index l.routines)
