use Rattle.std.proofs.Common.{◌≡◌, ◌<◌, ℕ}
use Rattle.std.specs.Prelude.{slice_index_or}
use Rattle.geos_image.specs.declared.row.SlotState.TheVariants.{Empty}
use Rattle.geos_rows.proofs.unreached.first_held.Given as goal

-- the slots so far are empty
abbrev pub invariant-loop-slot : goal.invariant-loop-slot
invariant-loop-slot l = (k : ℕ) → k < l.slot → slice_index_or l.slots k Empty ≡ Empty
