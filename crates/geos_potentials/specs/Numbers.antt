-- Steps and coefficients at each pc.
use Rattle.std.specs.Prelude.{ℕ, List, map}
use Rattle.geos_image.specs.declared.potential.Potential.{Potential}

-- the steps, and the coefficients of the counters, by pc
pub record Numbers : Type 0 where
  pub steps : List ℕ
  pub coefficients : List (List ℕ)

-- the steps of a potential
abbrev pub steps_of : Potential → ℕ
steps_of p = p.constant

-- its coefficients
abbrev pub coefficients_of : Potential → List ℕ
coefficients_of p = p.coefficients

-- the numbers of potentials
abbrev pub numbers_of : List Potential → Numbers
numbers_of potentials = record { steps = map steps_of potentials; coefficients = map coefficients_of potentials }
