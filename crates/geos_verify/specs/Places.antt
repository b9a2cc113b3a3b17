-- What is known at each pc of an image: the row that the image gives there, or otherwise the row after the previous
-- instruction.
use Rattle.std.specs.Prelude.{◌≡◌, ℕ, Bool, true, List, [], ◌∷◌, Option, Some, None, IfSome, slice_get}
use Rattle.geos_image.specs.declared.row.Row.{Row}
use Rattle.geos_image.specs.declared.point.Point.{Point}
use Rattle.geos_verify.specs.declared.place.Place.{Place}
use Rattle.geos_image.specs.Open.{open_row}
use Rattle.geos_image.specs.Parts.{Parts}
use Rattle.geos_verify.specs.Rows.{row_along}

-- the given row, or the other row if none is given
abbrev pub or_row : Option Row → Row → Row
or_row None other = other
or_row (Some row) other = row

-- the point with that row
abbrev pub place_of : Point → Row → Place
place_of point before = record { instr = point.instr; row = or_row point.row before; potential = point.potential }

-- the places of points, of which the first has this row if none is given there
abbrev pub places_from : Parts → Row → List Point → List Place
places_from image before [] = []
places_from image before (point ∷ points) =
    place_of point before ∷ places_from image (row_along image point.instr point.instr.opcode (or_row point.row before)) points

-- the places of an image; its first point gives a row
abbrev pub places : Parts → List Place
places image = places_from image open_row image.points

-- the place at a pc passes the test; true if there is no such place
abbrev pub at_place : Parts → ℕ → (Place → Bool) → Bool
at_place image pc test = elim (slice_get (places image) pc) [ None ↦ true | Some place ↦ test place ]

-- the row is what is known at the pc, if there is a place
abbrev pub RowAt : Parts → ℕ → Row → Type 0
RowAt image pc row = IfSome (slice_get (places image) pc) (λ place. place.row ≡ row)
