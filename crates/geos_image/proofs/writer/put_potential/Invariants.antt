use Rattle.std.proofs.Common.{◌≡◌, ◌++◌, take}
use Rattle.std.specs.List.{flat_map, All}
use Rattle.geos_image.specs.Ranges.{IsLong}
use Rattle.geos_image.specs.Spelling.{long}
use Rattle.geos_image.proofs.writer.put_potential.Given as goal

abbrev pub invariant-loop-n : goal.invariant-loop-n
invariant-loop-n l = (l.out.items ≡ l.initial.out.items ++ flat_map long (take l.n-index l.p.coefficients))
    × All IsLong (take l.n-index l.p.coefficients)
