use Rattle.std.proofs.Common.{◌≡◌, ◌++◌, take}
use Rattle.std.specs.List.{flat_map, All}
use Rattle.geos_image.specs.Ranges.{PointerFits}
use Rattle.geos_image.specs.Spelling.{pointer}
use Rattle.geos_image.proofs.writer.put_pointers.Given as goal

abbrev pub invariant-loop-p : goal.invariant-loop-p
invariant-loop-p l = (l.out.items ≡ l.initial.out.items ++ flat_map pointer (take l.p-index l.pointers)) × All PointerFits (take l.p-index l.pointers)
