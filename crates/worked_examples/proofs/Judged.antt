-- What the rules say of the worked examples, at each pc.
use Rattle.std.proofs.Common.{◌≡◌, refl, ℕ, ◌+◌, List, [], ◌∷◌, ◌++◌, take, drop, Option, Some, None}
use Rattle.geos_image.specs.declared.routine.Routine.{Routine}
use Rattle.geos_image.specs.Parts.{Parts}
use Rattle.geos_verify.specs.declared.place.Place.{Place}
use Rattle.geos_verify.specs.declared.rule.Rule.{Rule}
use Rattle.geos_verify.specs.declared.rule.Rule.TheVariants.{CallMisfit, EdgeUnpaid, OverBudget}
use Rattle.geos_verify.specs.Places.{places}
use Rattle.geos_verify.specs.Rules.{refusal, leaves_routine, names_empty_slot, entry_misfits, stale_pointer, passes_end, changes_unmarked, locks_into_held, wrong_slot, commits_with_held, call_misfits, exit_misfits, misfits_at, edge_misfits, unpaid_along, unpaid_branching, edge_unpaid, over_budget}
use Rattle.worked_examples.proofs.Images.{add, outputs, two_and_main, main_and_two, loop_by_k0, loop_by_k1}

-- the refusals at a list of places from a pc on, in routine r that begins at start
abbrev pub judged_from : Parts → ℕ → Routine → ℕ → ℕ → List Place → List (Option Rule)
judged_from image r routine start pc [] = []
judged_from image r routine start pc (place ∷ others) = refusal image r routine start pc place ∷ judged_from image r routine start (pc + 1) others

-- the refusals in the routines from r on, the first of which begins at start
abbrev pub judged_routines : Parts → ℕ → ℕ → List Routine → List (Option Rule)
judged_routines image r start [] = []
judged_routines image r start (routine ∷ routines) =
    judged_from image r routine start start (take routine.count (drop start (places image))) ++ judged_routines image
    (r + 1) (start + routine.count) routines

-- the refusal at each pc
abbrev pub judged : Parts → List (Option Rule)
judged image = judged_routines image 0 0 image.routines

-- what the rules say of each pc
pub record Judged : Type 0 where
  pub add_accepted : judged (add 5) ≡ None ∷ None ∷ None ∷ None ∷ None ∷ []
  pub add_over_budget : judged (add 4) ≡ Some OverBudget ∷ None ∷ None ∷ None ∷ None ∷ []
  pub outputs_accepted : judged (outputs 2052 2 2) ≡ None ∷ None ∷ None ∷ None ∷ []
  pub outputs_over_budget : judged (outputs 2051 2 2) ≡ Some OverBudget ∷ None ∷ None ∷ None ∷ []
  -- the LOOP's constant does not pay for the RET after it, nor its constant and coefficient for the edge back
  pub outputs_unpaid_loop : judged (outputs 2052 1 2) ≡ None ∷ None ∷ Some EdgeUnpaid ∷ None ∷ []
  -- without a coefficient, nothing pays for the edge back
  pub outputs_no_coefficient : judged (outputs 2052 2 0) ≡ None ∷ None ∷ Some EdgeUnpaid ∷ None ∷ []
  pub call_accepted : judged (two_and_main 2 5) ≡ None ∷ None ∷ None ∷ None ∷ None ∷ []
  pub call_over_budget : judged (two_and_main 2 4) ≡ None ∷ None ∷ Some OverBudget ∷ None ∷ None ∷ []
  -- the CALL would have to pay 3 for `two`
  pub call_unpaid : judged (two_and_main 3 5) ≡ None ∷ None ∷ Some EdgeUnpaid ∷ None ∷ None ∷ []
  pub call_of_higher : judged main_and_two ≡ Some CallMisfit ∷ None ∷ None ∷ None ∷ None ∷ []
  -- a counter that a routine two calls down sets pays for nothing after the CALL
  pub call_in_its_loop : judged loop_by_k0 ≡ None ∷ None ∷ None ∷ None ∷ None ∷ Some EdgeUnpaid ∷ None ∷ None ∷ []
  pub call_in_a_loop : judged loop_by_k1 ≡ None ∷ None ∷ None ∷ None ∷ None ∷ None ∷ None ∷ None ∷ []

pub examples : Judged
unfolding leaves_routine names_empty_slot entry_misfits stale_pointer passes_end changes_unmarked locks_into_held wrong_slot commits_with_held
    call_misfits exit_misfits misfits_at edge_misfits unpaid_along unpaid_branching edge_unpaid over_budget
examples = record {
  add_accepted = refl;
  add_over_budget = refl;
  outputs_accepted = refl;
  outputs_over_budget = refl;
  outputs_unpaid_loop = refl;
  outputs_no_coefficient = refl;
  call_accepted = refl;
  call_over_budget = refl;
  call_unpaid = refl;
  call_of_higher = refl;
  call_in_its_loop = refl;
  call_in_a_loop = refl;
}
