-- The blocks that a call passes to a routine.
use Rattle.std.specs.Prelude.{ℕ, if◌then◌else◌, List, [], ◌∷◌, ◌++◌}
use Rattle.geos_image.specs.declared.row.SlotState.{SlotState}
use Rattle.geos_image.specs.Parts.{Parts}
use Rattle.geos_image.specs.Legal.{is_own}
use Rattle.geos_verify.specs.Entry.{entry_slots}
use Rattle.script_commands.specs.declared.command.Call.{Call}

-- the handle for a slot that is borrowed, and no other
abbrev pub lent_handle : SlotState → ℕ → List ℕ
lent_handle state h = if is_own state then [] else h ∷ []

-- the handles of slots that are borrowed, in their order
abbrev pub lent_handles : List SlotState → List ℕ → List ℕ
lent_handles (state ∷ states) (h ∷ handles) = lent_handle state h ++ lent_handles states handles
lent_handles _ _ = []

-- the handles of the blocks that a call passes, in the order of slots
abbrev pub lent_by : Parts → Call → List ℕ
lent_by image call = lent_handles (entry_slots image call.routine) call.handles
