-- Rows at places that nothing reaches, and the rows that these make weaker elsewhere.
use Rattle.std.specs.Prelude.{◌≡◌, ◌≢◌, ◌<◌, ◌⊎◌, ℕ, Bool, true, not, List, Option, None, Some, slice_get, slice_index_or}
use Rattle.geos_opcodes.specs.declared.opcode.Opcode.{Opcode}
use Rattle.geos_opcodes.specs.declared.opcode.Opcode.TheVariants.{Call, Ret, Setkw}
use Rattle.geos_opcodes.specs.declared.uses.SlotUse.{SlotUse}
use Rattle.geos_opcodes.specs.declared.uses.SlotUse.TheVariants.{LocksNew, Locks, Unlocks}
use Rattle.geos_image.specs.declared.instr.Instr.{Instr}
use Rattle.geos_image.specs.declared.point.Point.{Point}
use Rattle.geos_image.specs.declared.row.Pointer.{Pointer}
use Rattle.geos_image.specs.declared.row.Row.{Row}
use Rattle.geos_image.specs.declared.row.SlotState.{SlotState}
use Rattle.geos_image.specs.declared.row.SlotState.TheVariants.{Empty}
use Rattle.geos_image.specs.declared.routine.Routine.{Routine}
use Rattle.geos_image.specs.Parts.{Parts}
use Rattle.geos_verify.specs.Rows.{bound, fits, holds_kind}
use Rattle.geos_verify.specs.Rules.{misuses, at_routine}
use Rattle.geos_code.specs.Code.{IsPcOf}
use Rattle.geos_code.specs.Edges.{LeadsTo}
use Rattle.geos_code.specs.Known.{known_at, clean, row_of}

-- Guesses

-- a pointer leads into the first slot that is not empty, with the greatest length
pub record IsFirstHeld (slots : List SlotState) (pointer : Pointer) : Type 0 where
  pub most : pointer.least ≡ 65535
  pub held : slice_index_or slots pointer.slot Empty ≢ Empty
  pub first : (k : ℕ) → k < pointer.slot → slice_index_or slots k Empty ≡ Empty

-- what the slot of an instruction has before it: nothing if the instruction locks a block into it, a block of the
-- kind if the instruction unlocks it, and otherwise what it has after it
abbrev pub IsBefore : SlotUse → SlotState → SlotState → Type 0
IsBefore (LocksNew kind) behind before = before ≡ Empty
IsBefore (Locks kind) behind before = before ≡ Empty
IsBefore (Unlocks kind) behind before = holds_kind kind before ≡ true
IsBefore _ behind before = before ≡ behind

-- the instruction's slot is as above, and the other slots have the same before and after the instruction
pub record AreBefore (uses : SlotUse) (slot : ℕ) (behind before : List SlotState) : Type 0 where
  pub here : IsBefore uses (slice_index_or behind slot Empty) (slice_index_or before slot Empty)
  pub others : (k : ℕ) → k ≢ slot → slice_index_or before k Empty ≡ slice_index_or behind k Empty

-- the entry row of some routine
abbrev pub IsEntry : Parts → Row → Type 0
IsEntry image row = (callee : ℕ) × (routine : Routine) × (slice_get image.routines callee ≡ Some routine) × (row ≡ routine.entry)

-- the row equals, except in its slots, the row of a pc of routine r to which an edge leads from this pc
pub record IsRowBehind (image : Parts) (r pc : ℕ) (from : List (Option Row)) (row : Row) : Type 0 where
  pub branch : Bool
  pub to : ℕ
  pub leads : LeadsTo image pc branch to
  pub stays : IsPcOf image r to
  pub there : Row
  pub known : known_at from to ≡ Some there
  pub bounds : row.bounds ≡ there.bounds
  pub pointers : row.pointers ≡ there.pointers
  pub pairs : row.pairs ≡ there.pairs

-- the exit row of routine r
abbrev pub IsExit : Parts → ℕ → Row → Type 0
IsExit image r row = (routine : Routine) × (slice_get image.routines r ≡ Some routine) × (row ≡ routine.exit)

-- an instruction is followed by something that requires this row: a callee's entry, a pc after an edge, or the exit
-- of routine r
abbrev pub IsWantedBehind : Parts → ℕ → ℕ → List (Option Row) → Row → Type 0
IsWantedBehind image r pc from row = IsEntry image row ⊎ IsRowBehind image r pc from row ⊎ IsExit image r row

-- what was known at a place is known there next
abbrev pub StaysKnown : List (Option Row) → List (Option Row) → Type 0
StaysKnown known next = (pc : ℕ) → known_at next pc ≡ None → known_at known pc ≡ None

-- each place of routine r has a row: the known row, or a guess if no row is known there
pub record IsGuess (image : Parts) (r : ℕ) (known from : List (Option Row)) : Type 0 where
  pub same : (pc : ℕ) (row : Row) → IsPcOf image r pc → known_at known pc ≡ Some row → known_at from pc ≡ Some row
  pub there : (pc : ℕ) → IsPcOf image r pc → known_at from pc ≢ None

-- Rows that are as good

-- with this row an instruction of routine r breaks a rule on the routine that it calls, on its return, or on its
-- slots and pointers
abbrev pub is_refused : Parts → ℕ → Instr → Opcode → Row → Bool
is_refused image r i Call row = not (at_routine image i.imm (λ routine. fits row routine.entry))
is_refused image r i Ret row = not (at_routine image r (λ routine. fits row routine.exit))
is_refused image r i _ row = misuses i row

-- both rows have the same bound for the word to which the instruction sets a counter
abbrev pub CountsAlike : Instr → Row → Row → Type 0
CountsAlike i row weaker = i.opcode ≡ Setkw → i.b < 8 → bound row i.b ≡ bound weaker i.b

-- for an instruction of routine r a weaker row is as good as a row: counters are set to as much, and an instruction
-- that is refused with the weaker row is refused with the other row too
pub record IsAsGood (image : Parts) (r : ℕ) (row weaker : Row) (i : Instr) : Type 0 where
  pub counts : CountsAlike i row weaker
  pub refused : is_refused image r i i.opcode weaker ≡ true → is_refused image r i i.opcode row ≡ true

-- at each place of routine r where a row was found, the weaker row is as good
abbrev pub AreAsGood : Parts → ℕ → List (Option Row) → List (Option Row) → Type 0
AreAsGood image r found weaker = (pc : ℕ) (row : Row) (point : Point) → IsPcOf image r pc → known_at found pc ≡ Some row
    → slice_get image.points pc ≡ Some point → IsAsGood image r (clean row) (row_of (known_at weaker pc)) point.instr
