-- Which slots are locked that must be empty: at a return, or at an instruction that writes the VM file.
use Rattle.std.specs.Prelude.{ℕ, Bool, ◌&&◌, not}
use Rattle.geos_explain.specs.Below.{is_empty, slot_state, is_of_file}
use Rattle.geos_explain.specs.Places.{Place}
use Rattle.geos_explain.specs.declared.held.HeldAt.{HeldAt}
use Rattle.geos_explain.specs.declared.held.HeldAt.TheVariants.{Return, Write}

-- at a return, a slot is locked that the exit row requires empty; at an instruction that writes the VM file, a slot
-- has a block of this file
abbrev pub is_held_at : HeldAt → Place → ℕ → Bool
is_held_at Return place a = not (is_empty (slot_state place.row a)) && is_empty (slot_state place.routine.exit a)
is_held_at Write place a = is_of_file (slot_state place.row a)
