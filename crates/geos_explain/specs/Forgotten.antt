-- Which call makes the verifier forget an item of the row, because after a call the row has only what the callee's
-- `out` line promises; and which instruction changes an index in a loop.
use Rattle.std.specs.Prelude.{◌≡◌, ℕ, Bool, true, false, ◌&&◌, not, nat_lt, nat_le, Option, Some, None, slice_get, slice_index_or, ◌||◌, ◌==◌, if◌then◌else◌}
use Rattle.geos_explain.specs.Below.{KnownPlace, places, Row, after, bound, has_edge, is_empty, pointer_at, pointer_fits, slot_fits, slot_state, Edge, Back, end_of, step_by, IsLedFrom, Instr, Opcode, Add, Sub, Muli}
use Rattle.geos_explain.specs.declared.forgotten.Item.{Item}
use Rattle.geos_explain.specs.declared.forgotten.Item.TheVariants.{Bound, Slot, Held, Leads, Apart}
use Rattle.geos_explain.specs.Led.{leads}
use Rattle.geos_explain.specs.Lost.{ComesTo}
use Rattle.geos_explain.specs.Places.{Place, comes_alike, is_inside, last_of}
use Rattle.geos_explain.specs.Since.{IsInside}
use Rattle.geos_explain.specs.Ways.{forgets}

-- a row knows an item
abbrev pub knows : Row → Item → Bool
knows row (Bound w most) = nat_lt w 8 && nat_le (bound row w) most
knows row (Slot a state) = slot_fits (slot_state row a) state
knows row (Held a) = not (is_empty (slot_state row a))
knows row (Leads p pointer) = pointer_fits (pointer_at row p) (Some pointer)
knows row (Apart pair) = nat_lt pair 6 && slice_index_or row.pairs pair false

-- an edge of the place's routine before which the row does not know the item, and which control reaches exactly if it
-- reaches the place
unfoldable pub stays_lacked : Place → Item → Edge → Bool
stays_lacked place item edge = elim (slice_get (places place.image) edge.from) [
  | None ↦ false
  | Some point ↦ is_inside place edge.from && not (knows point.row item) && comes_alike place edge.from
]

-- whether a path leads from one pc to another on which the row nowhere knows the item
abbrev pub is_lacked_from : Place → Item → ℕ → ℕ → Bool
is_lacked_from place item to pc = leads place.image Back (λ edge end. stays_lacked place item edge) to pc

-- control takes an edge of an instruction exactly if it reaches the place, and from the end of the edge such a path
-- leads to the place
abbrev pub comes_lacked : Place → Item → Edge → KnownPlace → Bool
comes_lacked place item edge point =
    is_lacked_from place item place.pc (end_of edge point.instr) && comes_alike place edge.from && has_edge point.instr edge.branch

-- an instruction is a call before which the row knows the item and after which it does not, and from which such a
-- path leads to the place
abbrev pub forgets_item : Place → Item → ℕ → KnownPlace → Bool
forgets_item place item from point =
    forgets point.instr.opcode && knows point.row item && comes_lacked place item (record { from = from; branch = false }) point
    && not (knows (after place.image from point.row false) item)

-- the same of the instruction at a pc
unfoldable pub forgets_at : Place → Item → ℕ → Bool
forgets_at place item from = elim (slice_get (places place.image) from) [ None ↦ false | Some point ↦ forgets_item place item from point ]

-- the last call of the routine that forgets the item, with a path to the place on which the row does not know the
-- item again
abbrev pub forgetting_call : Place → Item → Option ℕ
forgetting_call place item = last_of place (forgets_at place item) place.routine.count

-- The same statements as relations on paths

-- a path leads from one pc to another on which the row nowhere knows the item
abbrev pub IsLackedFrom : Place → Item → ℕ → ℕ → Type 0
IsLackedFrom place item pc to = IsLedFrom (step_by place.image Back (λ edge end. stays_lacked place item edge)) to pc

-- the instruction at a pc of the routine is a call; the row knows the item before it and not after it. From there a
-- path leads to the place on which the row nowhere knows the item
pub record IsForgottenBy (place : Place) (item : Item) (from : ℕ) : Type 0 where
  pub inside : IsInside place from
  pub next : ℕ
  pub comes : ComesTo place (record { from = from; branch = false }) next
  pub calls : forgets comes.point.instr.opcode ≡ true
  pub known : knows comes.point.row item ≡ true
  pub lost : knows (after place.image from comes.point.row false) item ≡ false
  pub way : IsLackedFrom place item next place.pc

-- the call that `forgetting_call` returns forgets the item on a path to the place
abbrev pub WhatIsSaidOfCallsHolds : Type 0
WhatIsSaidOfCallsHolds = (place : Place) (item : Item) (from : ℕ) → forgetting_call place item ≡ Some from → IsForgottenBy place item from

-- an instruction sets a word to a sum, difference or multiple of itself
abbrev pub moves : Instr → Opcode → ℕ → Bool
moves i Add w = i.a == w && (i.b == w || i.c == w)
moves i Sub w = i.a == w && (i.b == w || i.c == w)
moves i Muli w = i.a == w && i.b == w
moves i _ w = false

-- the instruction at a pc changes the word in this way, and from there a path leads to the place on which the row
-- nowhere knows the item
unfoldable pub moves_at : Place → Item → ℕ → ℕ → Bool
moves_at place item w from = elim (slice_get (places place.image) from) [
  | None ↦ false
  | Some point ↦ is_lacked_from place item place.pc from && moves point.instr point.instr.opcode w
]

-- the instruction, if a path leads from the place back to it on which the row nowhere knows the item
abbrev pub if_round : Place → Item → Option ℕ → Option ℕ
if_round place item None = None
if_round place item (Some from) = if is_lacked_from place item from place.pc then Some from else None

-- the last instruction of the routine that changes the word in this way, with such a path to the place; or None if no
-- such path leads back to it. So the instruction and the place are in a loop
abbrev pub moving : Place → Item → ℕ → Option ℕ
moving place item w = if_round place item (last_of place (moves_at place item w) place.routine.count)

-- The same statements as relations on paths

-- an instruction changes a word, and it and the place are in a loop in which the row nowhere knows the item
pub record IsMovedRound (place : Place) (item : Item) (w from : ℕ) : Type 0 where
  pub point : KnownPlace
  pub there : slice_get (places place.image) from ≡ Some point
  pub does : moves point.instr point.instr.opcode w ≡ true
  pub there_to : IsLackedFrom place item from place.pc
  pub back : IsLackedFrom place item place.pc from

-- the instruction that `moving` returns changes the word in such a loop
abbrev pub WhatIsSaidOfRoundsHolds : Type 0
WhatIsSaidOfRoundsHolds = (place : Place) (item : Item) (w from : ℕ) → moving place item w ≡ Some from → IsMovedRound place item w from
