-- Edges along which ranks rise form no cycle.
use Rattle.std.proofs.Common.{◌≡◌, ◌≤◌, ◌<◌, ◌+◌, ℕ, Bool, true, false, List, [], ◌∷◌, Some, sym, ap, ◌∙◌, arith, inl, inr}
use Rattle.std.specs.Prelude.{slice_index}
use Rattle.geos_image.specs.Parts.{Parts, start_of}
use Rattle.geos_code.specs.Code.{IsPcOf}
use Rattle.geos_counters.specs.Idle.{IsIdleWay, IsNeverPaid, MayNotPay}
use Rattle.geos_potentials.specs.Ranks.{AllRise, AreIdleNoted, noted_idle}
use Rattle.geos_counters.specs.Trails.{IsTrail, LeadsKeeping}
use Rattle.geos_potentials.specs.declared.classes.Classes.{Classes}

module _ (image : Parts) (r : ℕ) (ranks : List ℕ) (rise : AllRise image r ranks) where
  way-rises : (branches : List Bool) (from to : ℕ) → IsPcOf image r from → IsIdleWay image r from branches to
      → slice_index ranks from ≤ slice_index ranks to
  way-rises [] from to within way = (let same = ap (slice_index ranks) way in omega (arith, same))
  way-rises (branch ∷ branches) from to within way =
      let first = rise from way.0 branch within way.1 in
      let rest = way-rises branches way.0 to way.1.stays way.2 in
      omega (arith, first, rest)

  pub never-back : IsNeverPaid image r → ⊥
  never-back N =
      let first = rise N.from N.next N.branch N.begins N.first in
      let rest = way-rises N.branches N.next N.from N.first.stays N.way in
      omega (arith, first, rest)

-- it is noted wherever a counter may not pay
module _ (image : Parts) (r : ℕ) (classes : Classes) (noted : AreIdleNoted image r classes) where
  trail-noted : (k : ℕ) → k < 4 → (branches : List Bool) (from to : ℕ) → IsPcOf image r from → IsTrail image r (Some k) from branches to
      → noted_idle classes from k ≡ true → noted_idle classes to k ≡ true
  trail-noted k few [] from to within trail e = ap (λ (n : ℕ). noted_idle classes n k) (sym trail) ∙ e
  trail-noted k few (branch ∷ branches) from to within trail e =
      trail-noted k few branches trail.0 to trail.1.stays trail.2 (goes branch from trail.0 within trail.1 e)
    where
      goes : (branch : Bool) (from to : ℕ) → IsPcOf image r from → LeadsKeeping image r (Some k) from branch to
          → noted_idle classes from k ≡ true → noted_idle classes to k ≡ true
      goes false from to within lead e = (noted.each from within).along k few to lead e
      goes true from to within lead e = (noted.each from within).branching k few to lead e

  pub idle-noted : (k pc : ℕ) → k < 4 → IsPcOf image r pc → MayNotPay image r k pc → noted_idle classes pc k ≡ true
  idle-noted k pc few within (inl unset) = trail-noted k few unset.branches (start_of image.routines r) pc
      (begins pc within) unset.trail (noted.begins k few)
    where
      begins : (pc : ℕ) → IsPcOf image r pc → IsPcOf image r (start_of image.routines r)
      begins pc within = (let above = within.above in let below = within.below in record { above = omega arith; below = omega (arith, above, below) })
  idle-noted k pc few within (inr left) =
      trail-noted k few left.kept.branches (left.at + 1) pc left.kept.behind left.kept.trail
      ((noted.each left.at left.here).behind k few left.kept.behind left.touches)
