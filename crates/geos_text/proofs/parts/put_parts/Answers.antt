use Rattle.std.proofs.Common.{refl}
use Rattle.geos_text.specs.Parts.{part_text}
use Rattle.geos_text.proofs.Texts.{flat_map-step}
use Rattle.geos_text.proofs.parts.put_parts.Goals as goal

pub loop-part-preserved : goal.loop-part-preserved
loop-part-preserved c = flat_map-step _ _ _ _ part_text c.args.parts.now c.loop-part.part-index _ c.loop-part-test.true
    c.loop-part.invariant c.in_ok-put_part.ensures refl
