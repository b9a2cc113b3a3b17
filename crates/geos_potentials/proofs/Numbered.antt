-- The steps and coefficients of potentials at a pc, and where one is set.
use Rattle.std.proofs.Common.{◌≡◌, ◌∙◌, ℕ, zero, suc, List, [], ◌∷◌, get_or, map, set, ap}
use Rattle.std.proofs.lemmas.List.{map-set}
use Rattle.geos_image.specs.declared.potential.Potential.{Potential}
use Rattle.geos_potentials.specs.Numbers.{Numbers, steps_of, coefficients_of, numbers_of}

abbrev none : Potential
none = record { constant = 0; coefficients = [] }

pub numbers-at : (potentials : List Potential) (pc : ℕ) (p : Potential) → ((other : Potential) → p ≡ get_or potentials pc other)
    → (p.constant ≡ get_or (numbers_of potentials).steps pc 0) × (p.coefficients ≡ get_or (numbers_of potentials).coefficients pc [])
numbers-at [] pc p at = (ap steps_of (at none), ap coefficients_of (at none))
numbers-at (q ∷ potentials) zero p at = (ap steps_of (at none), ap coefficients_of (at none))
numbers-at (q ∷ potentials) (suc pc) p at = numbers-at potentials pc p at

abbrev both : List ℕ → List (List ℕ) → Numbers
both steps coefficients = record { steps = steps; coefficients = coefficients }

pub numbers-set : (potentials : List Potential) (pc : ℕ) (p : Potential)
    → numbers_of (set potentials pc p) ≡ record {
      steps = set (numbers_of potentials).steps pc p.constant;
      coefficients =
          set (numbers_of potentials).coefficients pc p.coefficients;
    }
numbers-set potentials pc p =
    ap (λ (steps : List ℕ). both steps (map coefficients_of (set potentials pc p))) (map-set steps_of potentials pc p)
    ∙ ap (both (set (map steps_of potentials) pc p.constant)) (map-set coefficients_of potentials pc p)
