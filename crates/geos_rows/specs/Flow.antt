-- How rows flow along forward edges.
use Rattle.std.specs.Prelude.{◌≡◌, ◌<◌, ◌≤◌, ◌⊎◌, ℕ, ◌+◌, ◌*◌, Bool, true, false, List, length, Option, Some, None, slice_get, slice_set, MatchBool}
use Rattle.geos_image.specs.declared.instr.Instr.{Instr}
use Rattle.geos_image.specs.declared.row.Row.{Row}
use Rattle.geos_image.specs.declared.routine.Routine.{Routine}
use Rattle.geos_image.specs.Parts.{Parts, start_of}
use Rattle.geos_verify.specs.Rows.{fits}
use Rattle.geos_code.specs.Code.{Edge, IsPcOf, ForwardIn, instrs_of, edge_row}
use Rattle.geos_code.specs.Known.{known_at, clean}
use Rattle.geos_rows.specs.Joins.{agree, IsLeastAbove}
use Rattle.geos_rows.specs.declared.flow.Arrival.{Arrival}
use Rattle.geos_rows.specs.declared.flow.Arrival.TheVariants.{Same, Weaker, Apart}
use Rattle.geos_rows.specs.Solutions.{RowsHoldIn}

-- a row is known, and the given row implies it
abbrev pub fits_known : Option Row → Row → Bool
fits_known None row = false
fits_known (Some known) row = fits row known

-- a row is known at the place, and the given row implies it
pub record KnownAt (known : List (Option Row)) (pc : ℕ) (row : Row) : Type 0 where
  pub known_row : Row
  pub read : known_at known pc ≡ Some known_row
  pub fits : fits row known_row ≡ true

-- the number of an edge; rows flow along edges in the order of these numbers
abbrev pub edge_number : ℕ → Bool → ℕ
edge_number pc true = 2 * pc + 1
edge_number pc false = 2 * pc

-- the entry row of routine r implies the row that is known at its start. Of the forward edges with numbers below
-- `done`, the row after each one implies the row that is known at its end.
pub record FitAhead (image : Parts) (r : ℕ) (known : List (Option Row)) (done : ℕ) : Type 0 where
  pub len : length (instrs_of image) ≤ length known
  pub entry : (routine : Routine) → slice_get image.routines r ≡ Some routine → KnownAt known (start_of image.routines r) routine.entry
  pub edges : (pc to : ℕ) (branch : Bool) (i : Instr) (row : Row) → IsPcOf image r pc → IsPcOf image r to → pc < to
      → edge_number pc branch < done → Edge (instrs_of image) pc branch to i
      → known_at known pc ≡ Some row → KnownAt known to (edge_row image i branch (clean row))

-- each known row of routine r implies the row that holds there
abbrev pub AllBelow : Parts → ℕ → List Row → List (Option Row) → Type 0
AllBelow image r want known = (pc : ℕ) (row w : Row) → IsPcOf image r pc → known_at known pc ≡ Some row
    → slice_get want pc ≡ Some w → fits row w ≡ true

-- rows have flowed along the forward edges of routine r with numbers below `done`, and each known row of the routine
-- implies the row that holds there
pub record Flowing (image : Parts) (r : ℕ) (want : List Row) (known : List (Option Row)) (done : ℕ) : Type 0 where
  pub below : AllBelow image r want known
  pub fit : FitAhead image r known done

-- a row is known at each instruction of routine r
abbrev pub AllKnown : Parts → ℕ → List (Option Row) → Type 0
AllKnown image r known = (pc : ℕ) → IsPcOf image r pc → (row : Row) × (known_at known pc ≡ Some row)

-- the entry row of routine r is known where it begins, and nothing at its other instructions
pub record Seeded (image : Parts) (r : ℕ) (known : List (Option Row)) : Type 0 where
  pub len : length (instrs_of image) ≤ length known
  pub entry : (routine : Routine) → slice_get image.routines r ≡ Some routine → known_at known (start_of image.routines r) ≡ Some routine.entry
  pub only : (pc : ℕ) → start_of image.routines r < pc → pc < start_of image.routines (r + 1) → known_at known pc ≡ None

-- the known rows before a pc stay
abbrev pub StaysBefore : ℕ → List (Option Row) → List (Option Row) → Type 0
StaysBefore pc known next = (k : ℕ) → k < pc → known_at next k ≡ known_at known k

-- What the flow of rows promises

-- the row is the join of the known row and another row, or this other row if none is known
abbrev pub IsJoin : Option Row → Row → Row → Type 0
IsJoin None row joined = joined ≡ row
IsJoin (Some old) row joined = IsLeastAbove old row joined

-- the slots of the known row and of the other row differ in more than marks, so no row is implied by both
abbrev pub HaveNoJoin : Option Row → Row → Type 0
HaveNoJoin None row = ⊥
HaveNoJoin (Some old) row = agree old row ≡ false

-- the table after a row has come to a place and was joined with the row known there
pub record Joins (known : List (Option Row)) (to : ℕ) (row : Row) (next : List (Option Row)) : Type 0 where
  pub joined : Row
  pub is : next ≡ slice_set known to (Some joined)
  pub join : IsJoin (known_at known to) row joined

-- the row that came to a place has a join with the row known there
abbrev pub has_joined : Arrival → Bool
has_joined Same = true
has_joined Weaker = true
has_joined Apart = false

-- the table after a row has come to a place, or there is no join
abbrev pub Arrives : Arrival → List (Option Row) → ℕ → Row → List (Option Row) → Type 0
Arrives Same known to row next = Joins known to row next
Arrives Weaker known to row next = Joins known to row next
Arrives Apart known to row next = HaveNoJoin (known_at known to) row

-- a row is known at a pc, and the instruction there has a forward edge that stays in routine r
pub record GoesAhead (image : Parts) (r pc : ℕ) (branch : Bool) (known : List (Option Row)) : Type 0 where
  pub row : Row
  pub here : known_at known pc ≡ Some row
  pub to : ℕ
  pub i : Instr
  pub edge : Edge (instrs_of image) pc branch to i
  pub stays : IsPcOf image r to
  pub ahead : pc < to

-- the table after the row at the pc has flowed along the edge, or there is no join. If no row flows along this edge,
-- the table is unchanged.
abbrev pub Spreads : Parts → ℕ → ℕ → Bool → List (Option Row) → List (Option Row) → Bool → Type 0
Spreads image r pc branch known next done =
    ((GoesAhead image r pc branch known → ⊥) × (done ≡ true) × (next ≡ known)) ⊎ ((goes : GoesAhead image r pc branch known)
    × MatchBool done (Joins known goes.to (edge_row image goes.i branch (clean goes.row)) next)
    (HaveNoJoin (known_at known goes.to) (edge_row image goes.i branch (clean goes.row))))

-- each known row of routine r implies any row that holds there, and if rows have no join, no rows hold
abbrev pub FlowsBelow : Parts → ℕ → List (Option Row) → Bool → Type 0
FlowsBelow image r known done = (want : List Row) → RowsHoldIn image r want → (done ≡ true) × AllBelow image r want known

-- rows have flowed along all edges of routine r; of code without loops
abbrev pub FlowsAnew : Parts → ℕ → List (Option Row) → Bool → Type 0
FlowsAnew image r known done = (want : List Row) → ForwardIn image r → RowsHoldIn image r want
    → (done ≡ true) × Flowing image r want known (2 * start_of image.routines (r + 1))

-- rows have flowed along all edges of so many routines; of code without loops
abbrev pub HaveFlowed : Parts → List (Option Row) → ℕ → Type 0
HaveFlowed image known count = (want : List Row) → ((r : ℕ) → r < count → ForwardIn image r × RowsHoldIn image r want) → (r : ℕ) → r < count
    → Flowing image r want known (2 * start_of image.routines (r + 1))
