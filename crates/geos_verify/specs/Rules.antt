-- The rules of the verifier, and the images that it accepts.
use Rattle.std.specs.Prelude.{◌≡◌, ◌<◌, ◌≤◌, ℕ, ◌+◌, length, Bool, true, false, ◌&&◌, ◌||◌, not, nat_lt, nat_le, ◌==◌, List, [], ◌∷◌, Option, Some, None, IfSome, slice_get}
use Rattle.std.specs.List.{list_any}
use Rattle.geos_terms.specs.Refusals.{first_refusal}
use Rattle.geos_opcodes.specs.declared.opcode.Opcode.{Opcode}
use Rattle.geos_opcodes.specs.declared.opcode.Opcode.TheVariants.{Ret}
use Rattle.geos_image.specs.declared.instr.Instr.{Instr}
use Rattle.geos_image.specs.declared.row.Row.{Row}
use Rattle.geos_image.specs.declared.potential.Potential.{Potential}
use Rattle.geos_image.specs.declared.routine.Routine.{Routine}
use Rattle.geos_image.specs.Parts.{Parts, start_of}
use Rattle.geos_image.specs.Fields.{FieldsFit, CalleeFits}
use Rattle.geos_image.specs.Legal.{is_own, is_formed, is_image}
use Rattle.geos_verify.specs.declared.rule.Rule.{Rule}
use Rattle.geos_verify.specs.declared.rule.Rule.TheVariants.{LeavesRoutine, NamesEmptySlot, EntryMisfit, StalePointer, PassesEnd, ChangesUnmarked, LocksIntoHeld, WrongSlot, CommitsHeld, CallMisfit, ExitMisfit, EdgeMisfit, EdgeUnpaid, OverBudget}
use Rattle.geos_verify.specs.declared.rule.Reject.{Reject}
use Rattle.geos_image.specs.declared.row.SlotState.{SlotState}
use Rattle.geos_image.specs.declared.row.SlotState.TheVariants.{Empty, Vm, Db}
use Rattle.geos_opcodes.specs.declared.uses.Width.{Width}
use Rattle.geos_opcodes.specs.declared.uses.Offset.{Offset}
use Rattle.geos_opcodes.specs.declared.uses.Offset.TheVariants.{Fixed, Indexed, Tested}
use Rattle.geos_opcodes.specs.declared.uses.SlotUse.{SlotUse}
use Rattle.geos_opcodes.specs.declared.uses.SlotUse.TheVariants.{LocksNew, Locks, Unlocks, Marks, Compares, Moves, LooksAt, Commits}
use Rattle.geos_opcodes.specs.declared.uses.PointerUse.{PointerUse}
use Rattle.geos_opcodes.specs.declared.uses.PointerUse.TheVariants.{Loads, Stores, Copies, Duplicates, Measures}
use Rattle.geos_opcodes.specs.Facts.{uses_of}
use Rattle.geos_image.specs.Keys.{falls_through, branches}
use Rattle.geos_verify.specs.declared.place.Place.{Place}
use Rattle.geos_verify.specs.Places.{places, at_place}
use Rattle.geos_verify.specs.Uses.{bytes_in}
use Rattle.geos_verify.specs.Rows.{at_point, bound, slot_state, pointer_at, are_alike, holds_kind, row_along, row_branching, fits, is_empty, is_stale, may_enter, may_leave, leads_nowhere}
use Rattle.geos_verify.specs.Touched.{calls}
use Rattle.geos_verify.specs.Potentials.{pays_along, pays_branching, is_within}

-- the pc is one of the routine's
abbrev pub has_place : ℕ → ℕ → ℕ → Bool
has_place start count pc = nat_le start pc && nat_lt pc (start + count)

-- the instruction is the return
abbrev pub returns : Opcode → Bool
returns Ret = true
returns _ = false

-- Each rule is a test that refuses where it is true: of a routine, its index, where it starts,
-- and the instruction, the row and the potential at pc

-- a branch or the fall-through leaves the routine
unfoldable pub leaves_routine : Routine → ℕ → ℕ → Instr → Bool
leaves_routine routine start pc i =
    (falls_through i.opcode && not (has_place start routine.count (pc + 1)))
    || (branches i.opcode && not (has_place start routine.count i.target))

-- a pointer of the row leads into an empty slot
unfoldable pub names_empty_slot : Row → Bool
names_empty_slot row = list_any (leads_nowhere row.slots) row.pointers

-- at the first pc: the entry row does not fit the row here, or a routine that is public has an
-- entry row that some caller from outside cannot meet, or an exit row with which it may not return to one
unfoldable pub entry_misfits : Routine → ℕ → ℕ → Row → Bool
entry_misfits routine start pc row =
    pc == start
    && (not (fits routine.entry row) || (routine.public && not (may_enter routine.entry && may_leave routine.entry routine.exit)))

-- the row knows nothing of a pointer that is read, written, copied or measured
abbrev pub uses_stale : Instr → PointerUse → Row → Bool
uses_stale i (Loads width offset) row = is_stale (pointer_at row i.b)
uses_stale i (Stores width offset) row = is_stale (pointer_at row i.b)
uses_stale i Copies row = is_stale (pointer_at row i.a) || is_stale (pointer_at row i.b)
uses_stale i Duplicates row = is_stale (pointer_at row i.b)
uses_stale i Measures row = is_stale (pointer_at row i.b)
uses_stale i _ row = false

-- the same, as a rule
unfoldable pub stale_pointer : Instr → Row → Bool
stale_pointer i row = uses_stale i (uses_of i.opcode).pointer row

-- how many bytes a read or a write requires at its pointer; none if the offset is tested at run time
abbrev pub reach : Instr → Width → Offset → Row → ℕ
reach i width Fixed row = i.imm + bytes_in width
reach i width Indexed row = bound row i.c + bytes_in width
reach i width Tested row = 0

-- how many bytes, at least, the row guarantees at a pointer
abbrev pub least_at : Row → ℕ → ℕ
least_at row p = elim (pointer_at row p) [ None ↦ 0 | Some q ↦ q.least ]

-- a read or a write may reach past those bytes
abbrev pub reaches_past : Instr → PointerUse → Row → Bool
reaches_past i (Loads width offset) row = nat_lt (least_at row i.b) (reach i width offset row)
reaches_past i (Stores width offset) row = nat_lt (least_at row i.b) (reach i width offset row)
reaches_past i Copies row = nat_lt (least_at row i.a) i.imm || nat_lt (least_at row i.b) i.imm
reaches_past i _ row = false

-- the same, as a rule
unfoldable pub passes_end : Instr → Row → Bool
passes_end i row = reaches_past i (uses_of i.opcode).pointer row

-- the slot holds a block of the VM file that is not known to be marked
abbrev pub is_unmarked : SlotState → Bool
is_unmarked (Vm marked borrowed) = not marked
is_unmarked (Db marked) = not marked
is_unmarked _ = false

-- what the row says of the slot that a pointer leads into
abbrev pub pointed_state : Row → ℕ → SlotState
pointed_state row p = elim (pointer_at row p) [ None ↦ Empty | Some q ↦ slot_state row q.slot ]

-- a block of the VM file that is not known to be marked is written through a pointer
abbrev pub writes_unmarked : Instr → PointerUse → Row → Bool
writes_unmarked i (Stores width offset) row = is_unmarked (pointed_state row i.b)
writes_unmarked i Copies row = is_unmarked (pointed_state row i.a)
writes_unmarked i _ row = false

-- the chunks of a block of the VM file that is not known to be marked are changed
abbrev pub moves_unmarked : Instr → SlotUse → Row → Bool
moves_unmarked i Moves row = is_unmarked (slot_state row i.a)
moves_unmarked i _ row = false

-- either of these, as a rule
unfoldable pub changes_unmarked : Instr → Row → Bool
changes_unmarked i row = writes_unmarked i (uses_of i.opcode).pointer row || moves_unmarked i (uses_of i.opcode).slot row

-- a block is locked into a slot that is not empty
abbrev pub locks_held : Instr → SlotUse → Row → Bool
locks_held i (LocksNew kind) row = not (is_empty (slot_state row i.a))
locks_held i (Locks kind) row = not (is_empty (slot_state row i.a))
locks_held i _ row = false

-- the same, as a rule
unfoldable pub locks_into_held : Instr → Row → Bool
locks_into_held i row = locks_held i (uses_of i.opcode).slot row

-- the instruction needs a block in a slot that is empty or has another kind, compares slots of two kinds, or unlocks
-- a borrowed slot
abbrev pub misuses_slot : Instr → SlotUse → Row → Bool
misuses_slot i (Unlocks kind) row = not (holds_kind kind (slot_state row i.a)) || not (is_own (slot_state row i.a))
misuses_slot i (Marks kind) row = not (holds_kind kind (slot_state row i.a))
misuses_slot i Compares row = is_empty (slot_state row i.a) || not (are_alike (slot_state row i.a) (slot_state row i.b))
misuses_slot i Moves row = is_empty (slot_state row i.a)
misuses_slot i LooksAt row = is_empty (slot_state row i.a)
misuses_slot i _ row = false

-- the same, as a rule
unfoldable pub wrong_slot : Instr → Row → Bool
wrong_slot i row = misuses_slot i (uses_of i.opcode).slot row

-- the row names no empty slot where the other one names none and the instruction at the pc uses slots as it may
abbrev pub NamesNoneAfter : Parts → ℕ → Row → Row → Type 0
NamesNoneAfter image pc before row =
    names_empty_slot before ≡ false → IfSome (slice_get image.points pc) (λ point. wrong_slot point.instr before ≡ false)
    → names_empty_slot row ≡ false

-- the slot holds a block of the VM file
abbrev pub is_of_file : SlotState → Bool
is_of_file (Vm marked borrowed) = true
is_of_file (Db marked) = true
is_of_file _ = false

-- the VM file is written while a slot holds a block of it
abbrev pub commits_held : SlotUse → Row → Bool
commits_held Commits row = list_any is_of_file row.slots
commits_held _ row = false

-- the same, as a rule
unfoldable pub commits_with_held : Instr → Row → Bool
commits_with_held i row = commits_held (uses_of i.opcode).slot row

-- one of the rules on what an instruction does with slots and pointers refuses it
unfoldable pub misuses : Instr → Row → Bool
misuses i row = stale_pointer i row || passes_end i row || changes_unmarked i row || locks_into_held i row || wrong_slot
    i row || commits_with_held i row

-- the routine passes the test; true if there is no such routine
abbrev pub at_routine : Parts → ℕ → (Routine → Bool) → Bool
at_routine image r test = elim (slice_get image.routines r) [ None ↦ true | Some routine ↦ test routine ]

-- a routine calls one that is not below it, or one whose entry row the row does not fit
unfoldable pub call_misfits : Parts → ℕ → Instr → Row → Bool
call_misfits image r i row = calls i.opcode && (not (nat_lt i.imm r) || not (at_routine image i.imm (λ callee. fits row callee.entry)))

-- a return where the row does not fit the exit row
unfoldable pub exit_misfits : Routine → Instr → Row → Bool
exit_misfits routine i row = returns i.opcode && not (fits row routine.exit)

-- a row does not fit what is known at the place of a pc
unfoldable pub misfits_at : Parts → ℕ → Row → Bool
misfits_at image to row = not (at_place image to (λ next. fits row next.row))

-- the row after an edge does not fit the row there
unfoldable pub edge_misfits : Parts → ℕ → Instr → Row → Bool
edge_misfits image pc i row =
    (falls_through i.opcode && misfits_at image (pc + 1) (row_along image i i.opcode row))
    || (branches i.opcode && misfits_at image i.target (row_branching i i.opcode row))

-- the potential does not pay for the edge to the next instruction
unfoldable pub unpaid_along : Parts → ℕ → Instr → Row → Potential → Bool
unpaid_along image pc i row potential = not (at_point image (pc + 1) (λ next. pays_along image i i.opcode row potential next.potential))

-- the potential does not pay for the edge to the target
unfoldable pub unpaid_branching : Parts → Instr → Potential → Bool
unpaid_branching image i potential = not (at_point image i.target (λ next. pays_branching i i.opcode potential next.potential))

-- the potential does not pay for an edge, or for the return
unfoldable pub edge_unpaid : Parts → ℕ → Instr → Row → Potential → Bool
edge_unpaid image pc i row potential =
    (falls_through i.opcode && unpaid_along image pc i row potential)
    || (branches i.opcode && unpaid_branching image i potential)
    || (returns i.opcode && potential.constant == 0)

-- at the first pc: the potential is above the budget
unfoldable pub over_budget : Routine → ℕ → ℕ → Potential → Bool
over_budget routine start pc potential = pc == start && not (is_within routine.budget potential)

-- what the rules on edges assume of an instruction at a pc of routine r: its fields are in range, it calls only a
-- routine below r, and its edges stay within the image
pub record GoesWithin (image : Parts) (r pc : ℕ) (i : Instr) : Type 0 where
  pub fields : FieldsFit i.opcode i
  pub callee : CalleeFits (length image.routines) i
  pub lower : calls i.opcode ≡ true → i.imm < r
  pub along : falls_through i.opcode ≡ true → pc + 1 < length image.points
  pub branch : branches i.opcode ≡ true → i.target < length image.points
  pub short : pc < 4096

-- the rules in the order of their numbers
abbrev pub tests : Parts → ℕ → Routine → ℕ → ℕ → Place → List (Bool × Rule)
tests image r routine start pc place =
    let i = place.instr in
    let row = place.row in
    let potential = place.potential in
    (leaves_routine routine start pc i, LeavesRoutine)
    ∷ (names_empty_slot row, NamesEmptySlot)
    ∷ (entry_misfits routine start pc row, EntryMisfit)
    ∷ (stale_pointer i row, StalePointer)
    ∷ (passes_end i row, PassesEnd)
    ∷ (changes_unmarked i row, ChangesUnmarked)
    ∷ (locks_into_held i row, LocksIntoHeld)
    ∷ (wrong_slot i row, WrongSlot)
    ∷ (commits_with_held i row, CommitsHeld)
    ∷ (call_misfits image r i row, CallMisfit)
    ∷ (exit_misfits routine i row, ExitMisfit)
    ∷ (edge_misfits image pc i row, EdgeMisfit)
    ∷ (edge_unpaid image pc i row potential, EdgeUnpaid)
    ∷ (over_budget routine start pc potential, OverBudget)
    ∷ []

-- the lowest of three rules that refuses the instruction: on locks into a slot, on the slot that is named, and on commits
abbrev pub slot_misuse : Instr → Row → Option Rule
slot_misuse i row =
    first_refusal ((locks_into_held i row, LocksIntoHeld) ∷ (wrong_slot i row, WrongSlot) ∷ (commits_with_held i row, CommitsHeld) ∷ [])

-- the lowest rule that refuses the place at a pc of a routine
abbrev pub refusal : Parts → ℕ → Routine → ℕ → ℕ → Place → Option Rule
refusal image r routine start pc place = first_refusal (tests image r routine start pc place)

-- no rule refuses from a routine's start up to a limit
abbrev pub RefusesNone : Parts → ℕ → Routine → ℕ → ℕ → Type 0
RefusesNone image r routine start limit = (pc : ℕ) (place : Place) → start ≤ pc → pc < limit → slice_get (places image) pc ≡ Some place
    → refusal image r routine start pc place ≡ None

-- the rule refuses the place at the pc, if there is one, in a routine that begins at start
abbrev pub Refuses : Parts → ℕ → Routine → ℕ → Reject → Type 0
Refuses image r routine start reject = IfSome (slice_get (places image) reject.pc)
    (λ place. refusal image r routine start reject.pc place ≡ Some reject.rule)

-- routine r has the place at pc
pub record HasPoint (image : Parts) (r : ℕ) (routine : Routine) (pc : ℕ) (place : Place) : Type 0 where
  pub there : slice_get image.routines r ≡ Some routine
  pub within : has_place (start_of image.routines r) routine.count pc ≡ true
  pub read : slice_get (places image) pc ≡ Some place

-- no rule refuses at any pc
abbrev pub Accepted : Parts → Type 0
Accepted image = (r pc : ℕ) (routine : Routine) (place : Place) → HasPoint image r routine pc place
    → refusal image r routine (start_of image.routines r) pc place ≡ None

-- no rule refuses, and the parts make an image where slots may be borrowed in either version
abbrev pub IsAcceptable : Parts → Type 0
IsAcceptable image = (is_formed true image ≡ true) × Accepted image

-- an image that may run
abbrev pub IsChecked : Parts → Type 0
IsChecked image = (is_image image ≡ true) × Accepted image

-- no rule refuses below a pc
abbrev pub AcceptedBelow : Parts → ℕ → Type 0
AcceptedBelow image limit = (r pc : ℕ) (routine : Routine) (place : Place) → pc < limit → HasPoint image r routine pc place
    → refusal image r routine (start_of image.routines r) pc place ≡ None

-- at the first pc where a rule refuses, the lowest such rule
pub record FirstRefusal (image : Parts) (reject : Reject) : Type 0 where
  pub r : ℕ
  pub routine : Routine
  pub place : Place
  pub has : HasPoint image r routine reject.pc place
  pub refuses : refusal image r routine (start_of image.routines r) reject.pc place ≡ Some reject.rule
  pub before : AcceptedBelow image reject.pc
