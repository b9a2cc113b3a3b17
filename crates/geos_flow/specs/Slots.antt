-- When states of a slot agree.
use Rattle.std.specs.Prelude.{Bool, ◌||◌}
use Rattle.geos_image.specs.declared.row.SlotState.{SlotState}
use Rattle.geos_verify.specs.Rows.{slot_fits}

-- the states differ in the mark at most
abbrev pub slots_agree : SlotState → SlotState → Bool
slots_agree x y = slot_fits x y || slot_fits y x
