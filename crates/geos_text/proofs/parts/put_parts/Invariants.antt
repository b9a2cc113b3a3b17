use Rattle.std.specs.Prelude.{◌≡◌, ◌++◌}
use Rattle.std.proofs.Common.{take}
use Rattle.geos_text.specs.Parts.{parts_text}
use Rattle.geos_text.proofs.parts.put_parts.Given as goal

abbrev pub invariant-loop-part : goal.invariant-loop-part
invariant-loop-part l = l.out.items ≡ l.initial.out.items ++ parts_text (take l.part-index l.parts)
