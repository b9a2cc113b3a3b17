use Rattle.std.proofs.Common.{ℕ, refl}
use Rattle.std.specs.Prelude.{slice_index_or}
use Rattle.geos_image.specs.declared.row.SlotState.TheVariants.{Empty}
use Rattle.geos_listing.specs.Rows.{slot_item}
use Rattle.geos_listing.proofs.Texts.{texts_below-step}
use Rattle.geos_listing.proofs.rows.put_slots.Goals as goal

pub loop-i-preserved : goal.loop-i-preserved
loop-i-preserved c =
    texts_below-step _ _ _ _ (λ (i : ℕ). slot_item i (slice_index_or c.args.slots.now i Empty)) c.loop-i.i
    c.loop-i.invariant c.in_ok-put_slot.ensures refl
