-- Which ways lead to a pc, which of them bring a pointer, and which instructions lose one.
use Rattle.std.specs.Prelude.{ℕ, Bool, true, false, ◌&&◌, ◌||◌, not, nat_lt, ◌==◌, if◌then◌else◌, List, Option, Some, None, slice_get, slice_set}
use Rattle.geos_explain.specs.Below.{Opcode, Call, PointerUse, Sets, uses_of, Instr, KnownPlace, places, Row, Pointer, Routine, SlotState, Parts, pointer_at, is_stale, after, has_edge, leads_nowhere, Edge}
use Rattle.geos_explain.specs.declared.ways.Way.{Way}
use Rattle.geos_explain.specs.declared.ways.Way.TheVariants.{Entry, Along}
use Rattle.geos_explain.specs.declared.ways.Sought.{Sought}
use Rattle.geos_explain.specs.declared.ways.Followed.{Followed}
use Rattle.geos_explain.specs.Led.{is_reached}
use Rattle.geos_explain.specs.Places.{Place, agrees, is_inside}

-- `true` asks whether the pointer is known, `false` whether it is not
abbrev pub is_as : Bool → Option Pointer → Bool
is_as true pointer = not (is_stale pointer)
is_as false pointer = is_stale pointer

-- what the caller passes in a pointer: the pointer of the entry row, unless it leads into an empty slot
abbrev pub entry_pointer : Routine → ℕ → Option Pointer
entry_pointer routine p =
    if leads_nowhere routine.entry.slots (pointer_at routine.entry p) then None else pointer_at routine.entry p

-- the slot that a pointer leads into, if it is empty
abbrev pub empty_behind : List SlotState → Option Pointer → Option ℕ
empty_behind slots None = None
empty_behind slots (Some pointer) = if leads_nowhere slots (Some pointer) then Some pointer.slot else None

-- the same of a row's pointer
abbrev pub empty_slot : Row → ℕ → Option ℕ
empty_slot row p = empty_behind row.slots (pointer_at row p)

-- the same of a pointer after an edge of an instruction
abbrev pub empty_along : Parts → ℕ → Edge → KnownPlace → Option ℕ
empty_along image p edge point =
    if has_edge point.instr edge.branch then empty_slot (after image edge.from point.row edge.branch) p else None

-- the same, if there is an instruction
unfoldable pub empty_from : Parts → ℕ → Edge → Option ℕ
empty_from image p edge = elim (slice_get (places image) edge.from) [ None ↦ None | Some point ↦ empty_along image p edge point ]

-- the slot that a pointer leads into after an edge or at the entry, if it is empty there
abbrev pub empty_on : Place → ℕ → Way → Option ℕ
empty_on place p Entry = empty_slot place.routine.entry p
empty_on place p (Along edge) = empty_from place.image p edge

-- the edge is the one searched for: control reaches its instruction or not, and the row knows the pointer after the
-- edge or not
abbrev pub is_as_sought : Place → Sought → Edge → KnownPlace → Bool
is_as_sought place sought edge point =
    agrees sought.reached (is_reached place.image edge.from) && has_edge point.instr edge.branch
    && is_as sought.known (pointer_at (after place.image edge.from point.row edge.branch) sought.p)

-- an edge of the routine is the one searched for
unfoldable pub is_sought : Place → Sought → Edge → Bool
is_sought place sought edge = elim (slice_get (places place.image) edge.from) [
  | None ↦ false
  | Some point ↦ is_inside place edge.from && is_as_sought place sought edge point
]

-- a row, with the hint for the pointer if the row does not know it
abbrev pub with_hint : Row → Followed → Row
with_hint row followed =
    if nat_lt followed.p 4 && is_stale (pointer_at row followed.p)
    then record row { pointers = slice_set row.pointers followed.p followed.hint }
    else row

-- what the row knows of a pointer after an edge of an instruction
abbrev pub behind : Parts → Followed → Edge → KnownPlace → Option Pointer
behind image followed edge point =
    if has_edge point.instr edge.branch
    then pointer_at (after image edge.from (with_hint point.row followed) edge.branch) followed.p
    else None

-- the instruction sets a pointer
abbrev pub sets : Instr → PointerUse → ℕ → Bool
sets i Sets p = i.b == p
sets i _ p = false

-- after this instruction nothing that was known before counts
abbrev pub forgets : Opcode → Bool
forgets Call = true
forgets _ = false

-- an instruction makes the pointer stale on this edge: the row knows the pointer before and not after
abbrev pub makes_stale : Parts → ℕ → Edge → Instr → Row → Bool
makes_stale image p edge i row =
    has_edge i edge.branch && not (is_stale (pointer_at row p)) && is_stale (pointer_at (after image edge.from row edge.branch) p)

-- an instruction loses a pointer on one of its edges: it was to set it and was refused, or makes it stale
abbrev pub loses : Parts → Followed → Edge → KnownPlace → Bool
loses image followed edge point =
    (edge.branch && sets point.instr (uses_of point.instr.opcode).pointer followed.p)
    || makes_stale image followed.p edge point.instr (with_hint point.row followed)
