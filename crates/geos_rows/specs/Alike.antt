-- Known rows whose slots differ from those of paths in marks at most.
use Rattle.std.specs.Prelude.{◌≡◌, ℕ, Bool, true, List, Option, Some}
use Rattle.geos_image.specs.declared.row.Row.{Row}
use Rattle.geos_image.specs.Parts.{Parts}
use Rattle.geos_code.specs.Code.{IsPcOf}
use Rattle.geos_code.specs.Known.{known_at}
use Rattle.geos_rows.specs.Joins.{agree}
use Rattle.geos_code.specs.Edges.{LeadsTo}
use Rattle.geos_rows.specs.Why.{ComesFromStart, MeetAlike}
use Rattle.geos_code.specs.declared.edges.Lead.{Lead}

-- control comes to a pc of routine r with slots that differ from those of a row in marks at most
pub record ComesAlike (image : Parts) (r pc : ℕ) (row : Row) : Type 0 where
  pub came : Row
  pub comes : ComesFromStart image r pc came
  pub alike : agree row came ≡ true

-- the same at each pc of routine r where a row is known
abbrev pub AllComeAlike : Parts → ℕ → List (Option Row) → Type 0
AllComeAlike image r known = (pc : ℕ) (row : Row) → IsPcOf image r pc → known_at known pc ≡ Some row → ComesAlike image r pc row

-- if the slots of any two paths to one pc differ in marks at most, and the known rows are alike, then rows had joins
-- and the next known rows are alike
abbrev pub StaysAlike : Parts → ℕ → List (Option Row) → List (Option Row) → Bool → Type 0
StaysAlike image r known next done = MeetAlike image r → AllComeAlike image r known → (done ≡ true) × AllComeAlike image r next

-- a row flows along an edge within routine r, and control comes to the start of the edge with slots that differ from
-- those of the row in marks at most
pub record GoesAlike (image : Parts) (r : ℕ) (lead : Lead) (row : Row) : Type 0 where
  pub comes : ComesAlike image r lead.edge.from row
  pub leads : LeadsTo image lead.edge.from lead.edge.branch lead.to
  pub stays : IsPcOf image r lead.to
