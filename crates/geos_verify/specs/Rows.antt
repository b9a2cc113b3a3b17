-- What is known after an instruction, and whether an entry state fits another.
use Rattle.std.specs.Prelude.{◌≡◌, ◌<◌, ℕ, ◌+◌, ◌*◌, ◌/◌, ◌^◌, min, Bool, true, false, ◌&&◌, ◌||◌, not, nat_le, ◌==◌, if◌then◌else◌, List, map, Option, Some, None, slice_index, slice_index_or, slice_set, slice_get}
use Rattle.std.specs.List.{list_all}
use Rattle.geos_opcodes.specs.declared.opcode.Opcode.{Opcode}
use Rattle.geos_opcodes.specs.declared.opcode.Opcode.TheVariants.{Ldi, Mov, Add, Sub, And, Shr, Muli, Chk, Call}
use Rattle.geos_image.specs.declared.instr.Instr.{Instr}
use Rattle.geos_image.specs.declared.row.Row.{Row}
use Rattle.geos_image.specs.declared.row.Pointer.{Pointer}
use Rattle.geos_image.specs.declared.row.SlotState.{SlotState}
use Rattle.geos_image.specs.declared.row.SlotState.TheVariants.{Empty, Mem, Vm, Db}
use Rattle.geos_opcodes.specs.Facts.{facts, operands_of, uses_of}
use Rattle.geos_opcodes.specs.declared.facts.Yields.{Yields}
use Rattle.geos_opcodes.specs.declared.facts.Yields.TheVariants.{Nothing, Computed, ByteInA, WordInA, WordInB, WordInAAndB}
use Rattle.geos_image.specs.declared.point.Point.{Point}
use Rattle.geos_image.specs.Parts.{Parts}
use Rattle.geos_image.specs.Keys.{falls_through, branches}
use Rattle.geos_opcodes.specs.declared.uses.Kind.{Kind}
use Rattle.geos_opcodes.specs.declared.uses.Kind.TheVariants.{MemBlock, VmBlock, DbGroup}
use Rattle.geos_opcodes.specs.declared.uses.SlotUse.{SlotUse}
use Rattle.geos_opcodes.specs.declared.uses.SlotUse.TheVariants.{NoSlot, LocksNew, Locks, Unlocks, Marks, Compares, Moves, MovesGroup}
use Rattle.geos_opcodes.specs.declared.uses.PointerUse.{PointerUse}
use Rattle.geos_opcodes.specs.declared.uses.PointerUse.TheVariants.{Sets, Duplicates}
use Rattle.geos_opcodes.specs.declared.uses.Uses.{Uses}
use Rattle.geos_verify.specs.Lists.{all2}
use Rattle.geos_verify.specs.Pairs.{slot_pairs, without_slot, with_pair, with_pairs, are_apart}
use Rattle.geos_verify.specs.Touched.{calls}
use Rattle.geos_verify.specs.Uses.{same_kind}

-- Edges

-- the point at a pc passes the test; true if there is no such point
abbrev pub at_point : Parts → ℕ → (Point → Bool) → Bool
at_point image pc test = elim (slice_get image.points pc) [ None ↦ true | Some point ↦ test point ]

-- the instruction has the edge: to its target, or to the next instruction
abbrev pub has_edge : Instr → Bool → Bool
has_edge i true = branches i.opcode
has_edge i false = falls_through i.opcode

-- the instruction at a pc, if there is one, has an edge to its target (if `branch`) or to the next instruction
-- (otherwise)
abbrev pub HasEdge : Parts → ℕ → Bool → Type 0
HasEdge image pc branch = at_point image pc (λ point. if branch then branches point.instr.opcode else falls_through point.instr.opcode) ≡ true

-- Bounds

-- what a word is at most
abbrev pub bound : Row → ℕ → ℕ
bound row a = slice_index row.bounds a

-- the row with n as the bound of a word
abbrev pub with_bound : ℕ → ℕ → Row → Row
with_bound a n row = record row { bounds = slice_set row.bounds a n }

-- n, or 65,535 where that is lower: what any word is at most
abbrev pub or_any : ℕ → ℕ
or_any n = min n 65535

-- the row with a bound of a word, if there is one
abbrev pub with_some_bound : ℕ → Option ℕ → Row → Row
with_some_bound a (Some n) row = with_bound a n row
with_some_bound a None row = row

-- the row with the bound of the word that an instruction computes
abbrev pub computed : Instr → Opcode → Row → Row
computed i Ldi row = with_bound i.a i.imm row
computed i Mov row = with_bound i.a (bound row i.b) row
computed i Add row = with_bound i.a (or_any (bound row i.b + bound row i.c)) row
computed i Sub row = with_bound i.a 65535 row
computed i And row = with_bound i.a (min (bound row i.b) i.imm) row
computed i Shr row = with_bound i.a (bound row i.b / 2 ^ i.imm) row
computed i Muli row = with_bound i.a (or_any (bound row i.b * i.imm)) row
computed i Chk row = with_bound i.a (min (bound row i.a) i.imm) row
computed i _ row = row

-- the row with the bound of the word that is the instruction's result
abbrev pub with_result : Instr → Opcode → Yields → Row → Row
with_result i opcode Nothing row = row
with_result i opcode Computed row = computed i opcode row
with_result i opcode ByteInA row = with_bound i.a 255 row
with_result i opcode WordInA row = with_bound i.a 65535 row
with_result i opcode WordInB row = with_bound i.b 65535 row
with_result i opcode WordInAAndB row = with_bound i.b 65535 (with_bound i.a 65535 row)

-- the same on the edge to the next instruction
abbrev pub bounded : Instr → Opcode → Row → Row
bounded i opcode row = with_result i opcode (facts opcode).yields row

-- the word that a result comes to is one that there is
abbrev pub YieldsFit : Yields → Instr → Type 0
YieldsFit ByteInA i = i.a < 8
YieldsFit WordInA i = i.a < 8
YieldsFit WordInB i = i.b < 8
YieldsFit WordInAAndB i = (i.a < 8) × (i.b < 8)
YieldsFit _ i = Unit {0}

-- Slots

-- what the row says of a slot
abbrev pub slot_state : Row → ℕ → SlotState
slot_state row a = slice_index_or row.slots a Empty

-- the kind of block that a slot holds, if it holds one
abbrev pub kind_in : SlotState → Option Kind
kind_in Empty = None
kind_in Mem = Some MemBlock
kind_in (Vm marked borrowed) = Some VmBlock
kind_in (Db marked) = Some DbGroup

-- one kind, or nothing in both places
abbrev pub alike : Option Kind → Option Kind → Bool
alike None None = true
alike (Some kind) (Some other) = same_kind kind other
alike _ _ = false

-- two slots hold blocks of one kind, or both nothing
abbrev pub are_alike : SlotState → SlotState → Bool
are_alike state other = alike (kind_in state) (kind_in other)

-- the slot holds a block of the kind
abbrev pub holds_kind : Kind → SlotState → Bool
holds_kind kind state = alike (kind_in state) (Some kind)

-- a slot into which a block of the kind was locked, with its mark if blocks of this kind have one
abbrev pub held_state : Kind → Bool → SlotState
held_state MemBlock marked = Mem
held_state VmBlock marked = Vm marked false
held_state DbGroup marked = Db marked

-- a slot whose block was marked, if blocks of its kind have a mark
abbrev pub marked_state : SlotState → SlotState
marked_state (Vm marked borrowed) = Vm true borrowed
marked_state (Db marked) = Db true
marked_state state = state

-- the slots after an instruction; a new block is known to be marked if its kind can be marked
abbrev pub slots_after : Instr → SlotUse → List SlotState → List SlotState
slots_after i (LocksNew kind) slots = slice_set slots i.a (held_state kind true)
slots_after i (Locks kind) slots = slice_set slots i.a (held_state kind false)
slots_after i (Unlocks kind) slots = slice_set slots i.a Empty
slots_after i (Marks kind) slots = slice_set slots i.a (marked_state (slice_index_or slots i.a Empty))
slots_after i _ slots = slots

-- Pairs

-- the pairs after an instruction: a new block differs from that of each other slot which holds one
-- of its kind; of a block that is locked, and of an empty slot, nothing is known; slots that were
-- compared differ
abbrev pub pairs_after : Instr → SlotUse → Row → List Bool
pairs_after i (LocksNew kind) row = with_pairs i.a (λ b. holds_kind kind (slot_state row b)) row.pairs
pairs_after i (Locks kind) row = without_slot i.a row.pairs
pairs_after i (Unlocks kind) row = without_slot i.a row.pairs
pairs_after i Compares row = with_pair i.a i.b row.pairs
pairs_after i _ row = row.pairs

-- Pointers

-- what the row says of a pointer
abbrev pub pointer_at : Row → ℕ → Option Pointer
pointer_at row p = slice_index_or row.pointers p None

-- slot b may hold the block that slot a holds: they hold blocks of one kind, or both nothing, and
-- are not known to differ
abbrev pub may_be_same : Row → ℕ → ℕ → Bool
may_be_same row a b = are_alike (slot_state row b) (slot_state row a) && not (are_apart a b row.pairs)

-- nothing is known of the pointer where it leads into a slot that passes the test
abbrev pub stale_where : (ℕ → Bool) → Option Pointer → Option Pointer
stale_where test None = None
stale_where test (Some p) = if test p.slot then None else Some p

-- the pointers after an instruction, before it sets one. A change of chunks makes pointers stale into each slot that
-- may hold the block. A change of a group that a handle names makes pointers stale into each slot with a group. An
-- unlock makes pointers stale into its slot.
abbrev pub pointers_kept : Instr → SlotUse → Row → List (Option Pointer)
pointers_kept i Moves row = map (stale_where (may_be_same row i.a)) row.pointers
pointers_kept i (Unlocks kind) row = map (stale_where (λ b. b == i.a)) row.pointers
pointers_kept i MovesGroup row = map (stale_where (λ b. holds_kind DbGroup (slot_state row b))) row.pointers
pointers_kept i _ row = row.pointers

-- pointers with the one that an instruction sets
abbrev pub with_pointer : Instr → PointerUse → List (Option Pointer) → List (Option Pointer)
with_pointer i Sets pointers = slice_set pointers i.b (Some (record { slot = i.a; least = i.imm }))
with_pointer i Duplicates pointers = slice_set pointers i.a (slice_index_or pointers i.b None)
with_pointer i _ pointers = pointers

-- a pointer is set
abbrev pub sets_pointer : PointerUse → Bool
sets_pointer Sets = true
sets_pointer Duplicates = true
sets_pointer _ = false

-- After an instruction

-- the row with what an instruction has done to slots, pairs and pointers
abbrev pub used : Instr → Uses → Row → Row
used i uses row = record row {
  slots = slots_after i uses.slot row.slots;
  pointers = with_pointer i uses.pointer (pointers_kept i uses.slot row);
  pairs = pairs_after i uses.slot row;
}

-- the row where an instruction was refused: w7 has the refusal's number, and what the call may
-- have moved is stale
abbrev pub refused : Instr → SlotUse → Row → Row
refused i slot row = record row { bounds = slice_set row.bounds 7 15; pointers = pointers_kept i slot row }

-- the exit row of a routine, or the row where there is no such routine
abbrev pub exit_row : Parts → ℕ → Row → Row
exit_row image r row = elim (slice_get image.routines r) [ None ↦ row | Some routine ↦ routine.exit ]

-- the row on the edge to the next instruction; after a call it is the exit row of the called routine
abbrev pub row_along : Parts → Instr → Opcode → Row → Row
row_along image i Call row = exit_row image i.imm row
row_along image i opcode row = used i (uses_of opcode) (bounded i opcode row)

-- no slot is used
abbrev pub uses_no_slot : SlotUse → Bool
uses_no_slot NoSlot = true
uses_no_slot _ = false

-- on the edge to the next instruction only bounds change: the instruction uses no slot, sets no pointer and calls
-- nothing
abbrev pub changes_bounds_alone : Opcode → Bool
changes_bounds_alone opcode = uses_no_slot (uses_of opcode).slot && not (sets_pointer (uses_of opcode).pointer) && not (calls opcode)

-- the row where control goes to the target
abbrev pub row_branching : Instr → Opcode → Row → Row
row_branching i opcode row = if (operands_of opcode).refusable then refused i (uses_of opcode).slot row else row

-- the row at the end of an edge of the instruction at pc
abbrev pub after : Parts → ℕ → Row → Bool → Row
after image pc row branch = elim (slice_get image.points pc) [
  | None ↦ row
  | Some point ↦ if branch then row_branching point.instr point.instr.opcode row else row_along image point.instr point.instr.opcode row
]

-- Fits

-- if the mark is required, it is known
abbrev pub mark_fits : Bool → Bool → Bool
mark_fits marked wanted = marked || not wanted

-- both flags are true, or both are false
abbrev pub same_flag : Bool → Bool → Bool
same_flag true wanted = wanted
same_flag false wanted = not wanted

-- the slot is in the wanted state, or marked where that is not wanted
abbrev pub slot_fits : SlotState → SlotState → Bool
slot_fits Empty Empty = true
slot_fits Mem Mem = true
slot_fits (Vm marked borrowed) (Vm wanted lent) = mark_fits marked wanted && same_flag borrowed lent
slot_fits (Db marked) (Db wanted) = mark_fits marked wanted
slot_fits _ _ = false

-- no pointer is required, or the pointer leads into the required slot, with at least the required length
abbrev pub pointer_fits : Option Pointer → Option Pointer → Bool
pointer_fits p None = true
pointer_fits None (Some q) = false
pointer_fits (Some p) (Some q) = p.slot == q.slot && nat_le q.least p.least

-- if the pair is required, it is known
abbrev pub pair_fits : Bool → Bool → Bool
pair_fits known wanted = known || not wanted

-- what row r says of the registers is enough for row s
abbrev pub fits : Row → Row → Bool
fits r s =
    all2 nat_le r.bounds s.bounds
    && all2 slot_fits r.slots s.slots
    && all2 pointer_fits r.pointers s.pointers
    && all2 pair_fits r.pairs s.pairs

-- Rows that a caller from outside can meet

-- the slot is empty
abbrev pub is_empty : SlotState → Bool
is_empty Empty = true
is_empty _ = false

-- nothing is known of the pointer
abbrev pub is_stale : Option Pointer → Bool
is_stale None = true
is_stale (Some p) = false

-- the slot is empty, or borrowed from the caller and not known to be marked
abbrev pub may_be_given : SlotState → Bool
may_be_given Empty = true
may_be_given (Vm marked borrowed) = not marked && borrowed
may_be_given _ = false

-- two slots are not known to hold different blocks, or one of them is empty
abbrev pub may_be_one : List SlotState → Bool → ℕ × ℕ → Bool
may_be_one slots known pair = not known || is_empty (slice_index_or slots pair.0 Empty) || is_empty (slice_index_or slots pair.1 Empty)

-- a row that each caller from outside can meet: each slot is empty or borrowed, all borrowed slots may have the same
-- block, and each pointer is stale
abbrev pub may_enter : Row → Bool
may_enter row = list_all may_be_given row.slots && list_all is_stale row.pointers && all2 (may_be_one row.slots) row.pairs slot_pairs

-- the slot is left as the caller gave it, marked or not
abbrev pub is_left : SlotState → SlotState → Bool
is_left Empty Empty = true
is_left (Vm marked borrowed) (Vm dirty lent) = borrowed && lent
is_left _ _ = false

-- a row with which a routine may return to a caller from outside, where it was entered with the other: it holds what was
-- borrowed and nothing else, and each pointer is stale
abbrev pub may_leave : Row → Row → Bool
may_leave entry exit = all2 is_left entry.slots exit.slots && list_all is_stale exit.pointers

-- the pointer leads into a slot that is empty
abbrev pub leads_nowhere : List SlotState → Option Pointer → Bool
leads_nowhere slots None = false
leads_nowhere slots (Some p) = is_empty (slice_index_or slots p.slot Empty)
