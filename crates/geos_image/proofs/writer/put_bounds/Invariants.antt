use Rattle.std.proofs.Common.{◌≡◌, ◌++◌, take}
use Rattle.std.specs.List.{flat_map, All}
use Rattle.geos_image.specs.Ranges.{IsWord}
use Rattle.geos_image.specs.Spelling.{word}
use Rattle.geos_image.proofs.writer.put_bounds.Given as goal

abbrev pub invariant-loop-n : goal.invariant-loop-n
invariant-loop-n l = (l.out.items ≡ l.initial.out.items ++ flat_map word (take l.n-index l.bounds)) × All IsWord (take l.n-index l.bounds)
