-- What is known of registers at a place, as a row.
use Rattle.std.specs.Prelude.{◌≡◌, ℕ, true, false, if◌then◌else◌, List, [], ◌∷◌, map, Option, Some, None, slice_index_or}
use Rattle.geos_image.specs.declared.row.Row.{Row}
use Rattle.geos_image.specs.declared.row.Pointer.{Pointer}
use Rattle.geos_image.specs.declared.row.SlotState.{SlotState}
use Rattle.geos_image.specs.declared.row.SlotState.TheVariants.{Empty}
use Rattle.geos_verify.specs.Rows.{fits, leads_nowhere}
use Rattle.geos_verify.specs.Rules.{names_empty_slot}

-- Pointers into empty slots

-- the pointer, unless it leads into an empty slot
abbrev pub without_empty : List SlotState → Option Pointer → Option Pointer
without_empty slots p = if leads_nowhere slots p then None else p

-- the row without pointers into empty slots
abbrev pub clean : Row → Row
clean row = record row { pointers = map (without_empty row.slots) row.pointers }

-- the row fits the second, which has no pointer into an empty slot, and fits each such row that
-- the first fits
pub record IsLeastClean (row above : Row) : Type 0 where
  pub weaker : fits row above ≡ true
  pub clean : names_empty_slot above ≡ false
  pub least : (u : Row) → fits row u ≡ true → names_empty_slot u ≡ false → fits above u ≡ true

-- Rows by places

-- the row of a place that nothing reaches: words are 0, each slot is empty, and all pairs are known
abbrev pub strongest : Row
strongest = record {
  bounds = 0 ∷ 0 ∷ 0 ∷ 0 ∷ 0 ∷ 0 ∷ 0 ∷ 0 ∷ [];
  slots = Empty ∷ Empty ∷ Empty ∷ Empty ∷ [];
  pointers = None ∷ None ∷ None ∷ None ∷ [];
  pairs = true ∷ true ∷ true ∷ true ∷ true ∷ true ∷ [];
}

-- the row at a place where this much is known
abbrev pub row_of : Option Row → Row
row_of None = strongest
row_of (Some row) = clean row

-- what is known at a place
abbrev pub known_at : List (Option Row) → ℕ → Option Row
known_at known pc = slice_index_or known pc None
