-- The routines and points that are made of what was found.
use Rattle.std.specs.Prelude.{◌≡◌, ℕ, List, [], ◌∷◌, length, Option, Some, true, slice_get, slice_index, slice_index_or}
use Rattle.geos_image.specs.declared.row.Row.{Row}
use Rattle.geos_image.specs.declared.potential.Potential.{Potential}
use Rattle.geos_image.specs.declared.routine.Routine.{Routine}
use Rattle.geos_image.specs.declared.point.Point.{Point}
use Rattle.geos_image.specs.Parts.{Parts}
use Rattle.geos_image.specs.Legal.{is_row}
use Rattle.geos_potentials.specs.Numbers.{Numbers}
use Rattle.geos_code.specs.Known.{row_of, known_at}

-- the potential of n steps, with all coefficients 0
abbrev pub potential_of : ℕ → Potential
potential_of n = record { constant = n; coefficients = 0 ∷ 0 ∷ 0 ∷ 0 ∷ [] }

-- the instructions of the image, with the rows that are known, and the steps and coefficients
-- that are counted
pub record PointsOf (image : Parts) (known : List (Option Row)) (numbers : Numbers) (points : List Point) : Type 0 where
  pub len : length points ≡ length image.points
  pub each : (pc : ℕ) (old : Point) → slice_get image.points pc ≡ Some old
      → slice_get points pc ≡ Some
      (record {
        instr = old.instr;
        row = Some (row_of (known_at known pc));
        potential =
            record { constant = slice_index numbers.steps pc; coefficients = slice_index_or numbers.coefficients pc [] };
      })
  pub legal : (pc : ℕ) (old : Point) → slice_get image.points pc ≡ Some old → is_row true (row_of (known_at known pc)) ≡ true

-- the routines of the image
pub record RoutinesOf (image : Parts) (routines : List Routine) : Type 0 where
  pub len : length routines ≡ length image.routines
  pub each : (r : ℕ) (routine : Routine) → slice_get image.routines r ≡ Some routine → slice_get routines r ≡ Some routine
