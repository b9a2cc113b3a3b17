-- The paths on which control is known to come to places, and which of them have been followed further.
use Rattle.std.specs.Prelude.{◌≡◌, ◌<◌, ℕ, ◌+◌, Bool, true, false, List, [], ◌∷◌, Option, None, Some, slice_get, slice_index_or}
use Rattle.geos_image.specs.declared.row.Row.{Row}
use Rattle.geos_image.specs.declared.routine.Routine.{Routine}
use Rattle.geos_image.specs.Parts.{Parts, start_of}
use Rattle.geos_verify.specs.Rows.{after}
use Rattle.geos_code.specs.Code.{IsPcOf}
use Rattle.geos_rows.specs.Joins.{agree}
use Rattle.geos_code.specs.Edges.{LeadsTo}
use Rattle.geos_rows.specs.Why.{IsComing}
use Rattle.geos_flow.specs.declared.apart.Coming.{Coming}

-- the known path to a place, if there is one
abbrev pub coming_at : List (Option Coming) → ℕ → Option Coming
coming_at known pc = slice_index_or known pc None

-- whether the path to a place has yet to be followed further
abbrev pub waits_at : List Bool → ℕ → Bool
waits_at waits pc = slice_index_or waits pc false

-- the number of places to which no path is known
abbrev pub count_unknown : List (Option Coming) → ℕ
count_unknown [] = 0
count_unknown (None ∷ known) = count_unknown known + 1
count_unknown (Some coming ∷ known) = count_unknown known

-- each known path is a path of control to its pc
abbrev pub AllCome : Parts → ℕ → List (Option Coming) → Type 0
AllCome image r known = (pc : ℕ) (coming : Coming) → coming_at known pc ≡ Some coming → IsComing image r pc coming

-- a path to a place is known, and its slots differ from those of the row in marks at most
pub record IsMet (known : List (Option Coming)) (to : ℕ) (row : Row) : Type 0 where
  pub first : Coming
  pub read : coming_at known to ≡ Some first
  pub alike : agree first.row row ≡ true

-- a path to a pc is known, and an edge takes its row from there to a place
pub record BringsAlong (image : Parts) (known : List (Option Coming)) (pc : ℕ) (branch : Bool) (to : ℕ) (row : Row) : Type 0 where
  pub before : Coming
  pub read : coming_at known pc ≡ Some before
  pub leads : LeadsTo image pc branch to
  pub row_is : row ≡ after image pc before.row branch

-- the path to a pc was followed along this edge, if the edge stays in routine r
abbrev pub HasGone : Parts → ℕ → List (Option Coming) → ℕ → Bool → Type 0
HasGone image r known pc branch = (coming : Coming) (to : ℕ) → coming_at known pc ≡ Some coming → LeadsTo image pc branch to
    → IsPcOf image r to → IsMet known to (after image pc coming.row branch)

-- the start of routine r is known, and all known paths are paths of control. A path to a place that does not wait was
-- followed along both edges of the place.
pub record IsSpread (image : Parts) (r : ℕ) (known : List (Option Coming)) (waits : List Bool) : Type 0 where
  pub come : AllCome image r known
  pub begun : (routine : Routine) → slice_get image.routines r ≡ Some routine → IsMet known (start_of image.routines r) routine.entry
  pub gone : (pc : ℕ) (branch : Bool) → IsPcOf image r pc → waits_at waits pc ≡ false → HasGone image r known pc branch

-- no place of routine r before the pc waits
abbrev pub NoneWaits : Parts → ℕ → List Bool → ℕ → Type 0
NoneWaits image r waits pc = (k : ℕ) → IsPcOf image r k → k < pc → waits_at waits k ≡ false

-- all that was known or waited still is known or waits, and each new place waits; there is a new place exactly if
-- `further` is true
pub record GoesFurther (known next : List (Option Coming)) (waits waiting : List Bool) (further : Bool) : Type 0 where
  pub stays : (pc : ℕ) (coming : Coming) → coming_at known pc ≡ Some coming → coming_at next pc ≡ Some coming
  pub rests : (pc : ℕ) → waits_at waiting pc ≡ false → (waits_at waits pc ≡ false) × (coming_at next pc ≡ coming_at known pc)
  pub same : further ≡ false → (next ≡ known) × (waiting ≡ waits)
  pub fewer : further ≡ true → count_unknown next < count_unknown known

-- the start of routine r is known, and all known paths were followed along all edges
pub record HaveAllGone (image : Parts) (r : ℕ) (known : List (Option Coming)) : Type 0 where
  pub begun : (routine : Routine) → slice_get image.routines r ≡ Some routine → IsMet known (start_of image.routines r) routine.entry
  pub gone : (pc : ℕ) (branch : Bool) → IsPcOf image r pc → HasGone image r known pc branch
