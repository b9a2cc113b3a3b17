-- Which items a row is missing to fit another.
use Rattle.std.specs.Prelude.{◌≡◌, ◌<◌, ◌≤◌, ◌↔◌, ℕ, Bool, true, false, ◌&&◌, not, nat_le, if◌then◌else◌, Option, None}
use Rattle.geos_explain.specs.Below.{Row, open_row, Pointer, SlotState, Empty, is_shaped, zip2, bound, slot_fits, pointer_fits, pair_fits, fits, is_empty, slot_state}

-- the required bound if the known bound does not imply it, otherwise the bound of every word
abbrev pub lacking_bound : ℕ → ℕ → ℕ
lacking_bound known wanted = if nat_le known wanted then 65535 else wanted

-- the required state of a slot if the known state does not meet it, otherwise the empty state of the open row
abbrev pub lacking_slot : SlotState → SlotState → SlotState
lacking_slot known wanted = if slot_fits known wanted then Empty else wanted

-- the required pointer if the known one does not meet it, otherwise none
abbrev pub lacking_pointer : Option Pointer → Option Pointer → Option Pointer
lacking_pointer known wanted = if pointer_fits known wanted then None else wanted

-- a pair is required and not known
abbrev pub lacking_pair : Bool → Bool → Bool
lacking_pair known wanted = not (pair_fits known wanted)

-- the items of a required row that a known row does not meet, and otherwise the items of the open row
abbrev pub lacking : Row → Row → Row
lacking known wanted = record {
  bounds = zip2 lacking_bound known.bounds wanted.bounds;
  slots = zip2 lacking_slot known.slots wanted.slots;
  pointers = zip2 lacking_pointer known.pointers wanted.pointers;
  pairs = zip2 lacking_pair known.pairs wanted.pairs;
}

-- a slot is locked although it is required empty
abbrev pub is_held_unwanted : SlotState → SlotState → Bool
is_held_unwanted known wanted = is_empty wanted && not (is_empty known)

-- a row lacks nothing that another requires: no item is missing, and no slot is locked that is required empty
pub record LacksNothing (known wanted : Row) : Type 0 where
  pub items : lacking known wanted ≡ open_row
  pub slots : (a : ℕ) → a < 4 → is_held_unwanted (slot_state known a) (slot_state wanted a) ≡ false

-- a shaped row lacks nothing that another requires exactly if it fits
abbrev pub LacksNothingWhereItFits : Type 0
LacksNothingWhereItFits =
    (known wanted : Row) → is_shaped known ≡ true → is_shaped wanted ≡ true → ((a : ℕ) → bound known a ≤ 65535)
    → LacksNothing known wanted ↔ (fits known wanted ≡ true)
