-- What the entry and exit rows of a public routine must not say.
use Rattle.std.specs.Prelude.{◌≡◌, ◌↔◌, ℕ, Bool, true, ◌&&◌, ◌||◌, not, if◌then◌else◌, List, map, slice_index_or}
use Rattle.geos_explain.specs.Below.{Row, SlotState, Empty, Vm, is_own, is_shaped, open_row, zip2, slot_pairs, each_pair, is_empty, may_enter, may_leave}

-- a slot that is locked and not borrowed, otherwise an empty one
abbrev pub own_only : SlotState → SlotState
own_only state = if is_own state then state else Empty

-- the slots of an entry row that are locked and not borrowed
abbrev pub own_slots : Row → Row
own_slots entry = record open_row { slots = map own_only entry.slots }

-- a borrowed slot that is known to be marked, otherwise an empty one
abbrev pub marked_only : SlotState → SlotState
marked_only (Vm true true) = Vm true true
marked_only _ = Empty

-- the slots of an entry row that are borrowed and known to be marked
abbrev pub marked_slots : Row → Row
marked_slots entry = record open_row { slots = map marked_only entry.slots }

-- two slots are locked and known to have different blocks
abbrev pub differ_held : List SlotState → Bool → ℕ × ℕ → Bool
differ_held slots known pair = known && not (is_empty (slice_index_or slots pair.0 Empty)) && not (is_empty (slice_index_or slots pair.1 Empty))

-- such pairs of an entry row
abbrev pub held_pairs : Row → Row
held_pairs entry = record open_row { pairs = each_pair (differ_held entry.slots) entry.pairs slot_pairs }

-- the pointers of which a row knows something
abbrev pub known_pointers : Row → Row
known_pointers row = record open_row { pointers = row.pointers }

-- a slot that is borrowed in the first row and not in the second, otherwise an empty one
abbrev pub missing_only : SlotState → SlotState → SlotState
missing_only entry exit = if not (is_own entry) && is_own exit then entry else Empty

-- the slots that a row has borrowed and an exit row has not
abbrev pub missing_slots : Row → Row → Row
missing_slots row exit = record open_row { slots = zip2 missing_only row.slots exit.slots }

-- the slot of the second row, unless both rows have it borrowed; otherwise an empty one
abbrev pub kept_only : SlotState → SlotState → SlotState
kept_only entry exit = if is_own entry || is_own exit then exit else Empty

-- the locked slots of an exit row, except those that are borrowed in both rows
abbrev pub kept_slots : Row → Row → Row
kept_slots entry exit = record open_row { slots = zip2 kept_only entry.slots exit.slots }

-- an entry row and an exit row have no fault: each row of faults is the open row
pub record HasNoFaults (entry exit : Row) : Type 0 where
  pub own : own_slots entry ≡ open_row
  pub marked : marked_slots entry ≡ open_row
  pub pairs : held_pairs entry ≡ open_row
  pub pointers : known_pointers entry ≡ open_row
  pub missing : missing_slots entry exit ≡ open_row
  pub kept : kept_slots entry exit ≡ open_row
  pub left : known_pointers exit ≡ open_row

-- the two rows have no fault exactly if a caller from outside may enter and leave by them
abbrev pub NoFaultsWhereItMayEnterAndLeave : Type 0
NoFaultsWhereItMayEnterAndLeave =
    (entry exit : Row) → is_shaped entry ≡ true → is_shaped exit ≡ true
    → HasNoFaults entry exit ↔ (may_enter entry && may_leave entry exit ≡ true)
