-- Which numbers an image holds: the words and the longs that their fields have room for.
use Rattle.std.specs.Prelude.{◌≡◌, ◌<◌, ◌^◌, ℕ, Option, Some, None, length}
use Rattle.std.specs.List.{All}
use Rattle.geos_image.specs.declared.row.Row.{Row}
use Rattle.geos_image.specs.declared.row.Pointer.{Pointer}
use Rattle.geos_image.specs.declared.potential.Potential.{Potential}
use Rattle.geos_image.specs.declared.routine.Routine.{Routine}
use Rattle.geos_image.specs.declared.point.Point.{Point}
use Rattle.geos_image.specs.Parts.{Parts}

-- a number that a word holds
abbrev pub IsWord : ℕ → Type 0
IsWord n = n < 2 ^ 16

-- a number that a long holds
abbrev pub IsLong : ℕ → Type 0
IsLong n = n < 2 ^ 32

-- a pointer's least length is a word
abbrev pub PointerFits : Option Pointer → Type 0
PointerFits None = Unit {0}
PointerFits (Some p) = IsWord p.least

-- a row's numbers are words
pub record RowFits (r : Row) : Type 0 where
  pub bounds : All IsWord r.bounds
  pub pointers : All PointerFits r.pointers

-- a potential's numbers are longs, and it has four coefficients
pub record PotentialFits (p : Potential) : Type 0 where
  pub constant : IsLong p.constant
  pub coefficients : All IsLong p.coefficients
  pub four : length p.coefficients ≡ 4

-- a name has 16 bytes, a budget is a long, and the rows fit
pub record RoutineFits (r : Routine) : Type 0 where
  pub name : length r.name ≡ 16
  pub budget : IsLong r.budget
  pub entry : RowFits r.entry
  pub exit : RowFits r.exit

-- a row that is given fits
abbrev pub GivenFits : Option Row → Type 0
GivenFits None = Unit {0}
GivenFits (Some row) = RowFits row

-- an instruction's row and potential fit
pub record PointFits (point : Point) : Type 0 where
  pub row : GivenFits point.row
  pub potential : PotentialFits point.potential

-- each routine and each point fits
pub record ImageFits (image : Parts) : Type 0 where
  pub routines : All RoutineFits image.routines
  pub points : All PointFits image.points
