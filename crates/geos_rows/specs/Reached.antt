-- Which instructions of a routine control reaches, and rows that hold there.
use Rattle.std.specs.Prelude.{◌≡◌, ◌<◌, ◌≤◌, ◌⊎◌, ℕ, Bool, true, false, List, [], ◌∷◌, length, map, Option, Some, slice_get}
use Rattle.geos_image.specs.declared.instr.Instr.{Instr}
use Rattle.geos_image.specs.declared.row.Row.{Row}
use Rattle.geos_image.specs.declared.routine.Routine.{Routine}
use Rattle.geos_image.specs.Parts.{Parts, start_of}
use Rattle.geos_image.specs.Keys.{gives, keyed_of}
use Rattle.geos_image.specs.Legal.{is_formed}
use Rattle.geos_verify.specs.declared.place.Place.{Place}
use Rattle.geos_verify.specs.Places.{places}
use Rattle.geos_verify.specs.Rows.{fits}
use Rattle.geos_verify.specs.Rules.{names_empty_slot, leaves_routine, edge_misfits, HasPoint}
use Rattle.geos_code.specs.Code.{Edge, IsPcOf, TargetAhead, instrs_of, edge_row}
use Rattle.geos_code.specs.Known.{clean, known_at}
use Rattle.geos_rows.specs.Flow.{KnownAt, StaysBefore}

-- edges within routine r, the last first, lead from its start to the pc
abbrev pub LeadWithin : Parts → ℕ → List (ℕ × Bool) → ℕ → Type 0
LeadWithin image r [] pc = pc ≡ start_of image.routines r
LeadWithin image r (edge ∷ edges) pc = LeadWithin image r edges edge.0 × IsPcOf image r pc × ((i : Instr) × Edge (instrs_of image) edge.0 edge.1 pc i)

-- control reaches the pc from the start of routine r, on edges within it
pub record IsReached (image : Parts) (r pc : ℕ) : Type 0 where
  pub edges : List (ℕ × Bool)
  pub lead : LeadWithin image r edges pc

-- rows hold wherever control reaches in routine r. The entry row implies the first row, and the row after an edge
-- within the routine implies the row at its end. No pointer leads into an empty slot where the image gives a row.
pub record HoldWhereReached (image : Parts) (r : ℕ) (rows : List Row) : Type 0 where
  pub len : length rows ≡ length (instrs_of image)
  pub entry : (routine : Routine) (row : Row) → slice_get image.routines r ≡ Some routine
      → slice_get rows (start_of image.routines r) ≡ Some row → fits routine.entry row ≡ true
  pub edges : (pc to : ℕ) (branch : Bool) (i : Instr) (row next : Row) → IsReached image r pc → Edge (instrs_of image) pc branch to i
      → IsPcOf image r to → slice_get rows pc ≡ Some row
      → slice_get rows to ≡ Some next → fits (edge_row image i branch row) next ≡ true
  pub clean : (pc : ℕ) (row : Row) → IsPcOf image r pc → gives image pc ≡ true → slice_get rows pc ≡ Some row → names_empty_slot row ≡ false

-- the row that is known at a place
abbrev pub row_in : Place → Row
row_in place = place.row

-- the rows of an image, by pc
abbrev pub rows_of : Parts → List Row
rows_of image = map row_in (places image)

-- the rows of the image hold wherever control reaches in its routines
abbrev pub AllHoldWhereReached : Parts → Type 0
AllHoldWhereReached image = (r : ℕ) → r < length image.routines → HoldWhereReached image r (rows_of image)

-- rows that hold in an image also hold in version 2
abbrev pub KeptRowsHold : Type 0
KeptRowsHold = (image : Parts) → is_formed true image ≡ true → AllHoldWhereReached image → AllHoldWhereReached (keyed_of image)

-- What the verifier accepts if rows hold

-- the rules on rows at a pc of routine r: a given row has no pointer into an empty slot; at the start the entry row
-- implies the row; and unless an edge leaves the routine, the row after each edge implies the row at its end
pub record RowRulesPass (image : Parts) (r : ℕ) (routine : Routine) (pc : ℕ) (place : Place) : Type 0 where
  pub clean : gives image pc ≡ true → names_empty_slot place.row ≡ false
  pub entry : pc ≡ start_of image.routines r → fits routine.entry place.row ≡ true
  pub edges : leaves_routine routine (start_of image.routines r) pc place.instr ≡ false → edge_misfits image pc place.instr place.row ≡ false

-- if the rows of an image hold, the rules on rows pass wherever control reaches
abbrev pub RowsThatHoldPass : Type 0
RowsThatHoldPass = (image : Parts) (r pc : ℕ) (routine : Routine) (place : Place) → HoldWhereReached image r (rows_of image)
    → IsReached image r pc → HasPoint image r routine pc place
    → RowRulesPass image r routine pc place

-- What the search finds

-- the row after an edge of the instruction at a pc implies the row that is known at its end, if the edge stays in
-- routine r
abbrev pub EdgeFits : Parts → ℕ → List (Option Row) → ℕ → Bool → Type 0
EdgeFits image r known pc branch = (to : ℕ) (i : Instr) (row : Row) → Edge (instrs_of image) pc branch to i
    → IsPcOf image r to → known_at known pc ≡ Some row → KnownAt known to (edge_row image i branch (clean row))

-- the row after each edge of routine r to a target implies the row that is known there, unless the edge is a forward
-- edge
abbrev pub BackFit : Parts → ℕ → List (Option Row) → Type 0
BackFit image r known = (pc : ℕ) → IsPcOf image r pc → TargetAhead image r pc ⊎ EdgeFits image r known pc true

-- the entry row of routine r implies the row that is known at its start, and the row after each edge implies the row
-- known at its end
pub record AllFit (image : Parts) (r : ℕ) (known : List (Option Row)) : Type 0 where
  pub entry : (routine : Routine) → slice_get image.routines r ≡ Some routine → KnownAt known (start_of image.routines r) routine.entry
  pub edges : (pc : ℕ) (branch : Bool) → IsPcOf image r pc → EdgeFits image r known pc branch

-- the same for edges from places that control reaches, and a row is known at each such place
pub record FitWhereReached (image : Parts) (r : ℕ) (known : List (Option Row)) : Type 0 where
  pub entry : (routine : Routine) → slice_get image.routines r ≡ Some routine → KnownAt known (start_of image.routines r) routine.entry
  pub edges : (pc : ℕ) (branch : Bool) → IsReached image r pc → EdgeFits image r known pc branch
  pub there : (pc : ℕ) → IsReached image r pc → (row : Row) × (known_at known pc ≡ Some row)

-- control reaches each pc of routine r where a row is known, and no rows that hold wherever control reaches are
-- stronger there than the known row
abbrev pub AreAtMostAny : Parts → ℕ → List (Option Row) → Type 0
AreAtMostAny image r least = (known : List (Option Row)) → FitWhereReached image r known → (pc : ℕ) (row : Row)
    → IsPcOf image r pc → known_at least pc ≡ Some row → IsReached image r pc × KnownAt known pc row

-- the new table has the rows of another table from `start` to `end`, and stays before `start`
pub record Copies (start end : ℕ) (from known next : List (Option Row)) : Type 0 where
  pub len : length next ≡ length known
  pub same : (pc : ℕ) → start ≤ pc → pc < end → known_at next pc ≡ known_at from pc
  pub stays : StaysBefore start known next

-- the new table has each row that was found from `start` to `end`, and stays before `start`
pub record Keeps (start end : ℕ) (found known next : List (Option Row)) : Type 0 where
  pub len : length next ≡ length known
  pub kept : (pc : ℕ) (row : Row) → start ≤ pc → pc < end → known_at found pc ≡ Some row → known_at next pc ≡ Some row
  pub stays : StaysBefore start known next
