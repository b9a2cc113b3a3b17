-- The weakest rows that hold if, wherever two paths meet, their slots differ in marks at most. They say of slots only
-- what they must, and nothing of the rest.
use Rattle.std.specs.Prelude.{◌≡◌, ◌<◌, ◌≤◌, ℕ, Bool, true, false, List, [], ◌∷◌, length, map, Option, Some, None, slice_get}
use Rattle.geos_image.specs.declared.instr.Instr.{Instr}
use Rattle.geos_image.specs.declared.row.Row.{Row}
use Rattle.geos_image.specs.declared.row.SlotState.{SlotState}
use Rattle.geos_image.specs.declared.row.SlotState.TheVariants.{Empty, Mem, Vm, Db}
use Rattle.geos_image.specs.declared.routine.Routine.{Routine}
use Rattle.geos_image.specs.Parts.{Parts, start_of}
use Rattle.geos_code.specs.Code.{Edge, IsPcOf, instrs_of, edge_row}
use Rattle.geos_code.specs.Known.{known_at, clean}
use Rattle.geos_rows.specs.Flow.{StaysBefore}
use Rattle.geos_rows.specs.Joins.{agree}
use Rattle.geos_rows.specs.Meeting.{coming_at}
use Rattle.geos_flow.specs.declared.apart.Coming.{Coming}

-- the state without a mark
abbrev pub unmarked : SlotState → SlotState
unmarked Empty = Empty
unmarked Mem = Mem
unmarked (Vm marked borrowed) = Vm false borrowed
unmarked (Db marked) = Db false

-- bounds of any words
abbrev pub any_words : List ℕ
any_words = 65535 ∷ 65535 ∷ 65535 ∷ 65535 ∷ 65535 ∷ 65535 ∷ 65535 ∷ 65535 ∷ []

-- the weakest row with these slots, without their marks
abbrev pub weakest : Row → Row
weakest row = record {
  bounds = any_words;
  slots = map unmarked row.slots;
  pointers = None ∷ None ∷ None ∷ None ∷ [];
  pairs = false ∷ false ∷ false ∷ false ∷ false ∷ false ∷ [];
}

-- the weakest row of a known path to a place, if there is one
abbrev pub weakest_of : Option Coming → Option Row
weakest_of None = None
weakest_of (Some coming) = Some (weakest coming.row)

-- the weakest row of some row is known at a place, and the slots of that row differ from those of another in marks at
-- most
pub record IsWeakAt (known : List (Option Row)) (pc : ℕ) (row : Row) : Type 0 where
  pub first : Row
  pub read : known_at known pc ≡ Some (weakest first)
  pub alike : agree row first ≡ true

-- the test `fit` is true if the known row is the weakest row of some row, and the slots of this row and the given one
-- differ in marks at most
abbrev pub FitsWeakest : Option Row → Row → Bool → Type 0
FitsWeakest known row fit = (first : Row) → known ≡ Some (weakest first) → agree row first ≡ true → fit ≡ true

-- such a row is known at the end of an edge of the instruction at a pc, if the edge stays in routine r
abbrev pub EdgeIsWeak : Parts → ℕ → List (Option Row) → ℕ → Bool → Type 0
EdgeIsWeak image r known pc branch = (to : ℕ) (i : Instr) (row : Row) → Edge (instrs_of image) pc branch to i
    → IsPcOf image r to → known_at known pc ≡ Some row → IsWeakAt known to (edge_row image i branch (clean row))

-- such a row is known at the start of routine r, and at the end of each of its edges
pub record AllWeak (image : Parts) (r : ℕ) (known : List (Option Row)) : Type 0 where
  pub entry : (routine : Routine) → slice_get image.routines r ≡ Some routine → IsWeakAt known (start_of image.routines r) routine.entry
  pub edges : (pc : ℕ) (branch : Bool) → IsPcOf image r pc → EdgeIsWeak image r known pc branch

-- the new table has the weakest rows of the known paths from `start` to `end`, and stays before `start`
pub record Weakens (start end : ℕ) (comings : List (Option Coming)) (known next : List (Option Row)) : Type 0 where
  pub len : length next ≡ length known
  pub same : (pc : ℕ) → start ≤ pc → pc < end → known_at next pc ≡ weakest_of (coming_at comings pc)
  pub stays : StaysBefore start known next
