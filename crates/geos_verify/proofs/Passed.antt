-- If no rule refuses a point, the test of each rule is false.
use Rattle.std.proofs.Common.{◌≡◌, ◌<◌, ℕ, Bool, true, false, None, Some, List, [], ◌∷◌, length, slice_get, refl, sym, subst}
use Rattle.std.specs.Prelude.{IfSome}
use Rattle.geos_terms.specs.Refusals.{first_refusal}
use Rattle.geos_image.specs.declared.routine.Routine.{Routine}
use Rattle.geos_verify.specs.declared.place.Place.{Place}
use Rattle.geos_image.specs.Parts.{Parts}
use Rattle.geos_image.specs.declared.point.Point.{Point}
use Rattle.geos_image.specs.declared.row.Row.{Row}
use Rattle.geos_verify.specs.Places.{places, RowAt}
use Rattle.geos_verify.specs.Rules.{leaves_routine, names_empty_slot, entry_misfits, stale_pointer, passes_end, changes_unmarked, locks_into_held, wrong_slot, commits_with_held, call_misfits, exit_misfits, edge_misfits, edge_unpaid, over_budget, tests, refusal, NamesNoneAfter}
use Rattle.geos_verify.proofs.Places.{item_at, if_some, place-at}

-- every test is false
abbrev pub Passed : {R : Type 0} → List (Bool × R) → Type 0
Passed [] = Unit {0}
Passed (test ∷ tests) = (test.0 ≡ false) × Passed tests

pub passed : {R : Type 0} (tests : List (Bool × R)) → first_refusal tests ≡ None → Passed tests
passed [] e = tt
passed ((true, rule) ∷ tests) e = absurd cc
passed ((false, rule) ∷ tests) e = (refl, passed tests e)

-- no rule refuses the point at a pc of routine r, which begins at start
pub record NoneRefuses (image : Parts) (r : ℕ) (routine : Routine) (start pc : ℕ) (point : Place) : Type 0 where
  pub stays : leaves_routine routine start pc point.instr ≡ false
  pub named : names_empty_slot point.row ≡ false
  pub entry : entry_misfits routine start pc point.row ≡ false
  pub fresh : stale_pointer point.instr point.row ≡ false
  pub within : passes_end point.instr point.row ≡ false
  pub marked : changes_unmarked point.instr point.row ≡ false
  pub unheld : locks_into_held point.instr point.row ≡ false
  pub held : wrong_slot point.instr point.row ≡ false
  pub freed : commits_with_held point.instr point.row ≡ false
  pub call : call_misfits image r point.instr point.row ≡ false
  pub exit : exit_misfits routine point.instr point.row ≡ false
  pub edge : edge_misfits image pc point.instr point.row ≡ false
  pub paid : edge_unpaid image pc point.instr point.row point.potential ≡ false
  pub budget : over_budget routine start pc point.potential ≡ false

pub none-refuses : (image : Parts) (r : ℕ) (routine : Routine) (start pc : ℕ) (point : Place)
    → refusal image r routine start pc point ≡ None → NoneRefuses image r routine start pc point
none-refuses image r routine start pc point e =
    let p = passed (tests image r routine start pc point) e in
    let q = p.1.1.1 in
    let t = q.1.1.1.1.1 in
    record {
      stays = p.0;
      named = p.1.0;
      entry = p.1.1.0;
      fresh = q.0;
      within = q.1.0;
      marked = q.1.1.0;
      unheld = q.1.1.1.0;
      held = q.1.1.1.1.0;
      freed = t.0;
      call = t.1.0;
      exit = t.1.1.0;
      edge = t.1.1.1.0;
      paid = t.1.1.1.1.0;
      budget = t.1.1.1.1.1.0;
    }

-- where no rule refuses the place at a pc, a row names no empty slot if that follows from the row there and how slots are used
pub names-none-next : (image : Parts) (r start pc : ℕ) (routine : Routine) (row next : Row) → pc < length image.points
    → IfSome (slice_get (places image) pc) (λ place. None ≡ refusal image r routine start pc place) → RowAt image pc row
    → NamesNoneAfter image pc row next → names_empty_slot next ≡ false
names-none-next image r start pc routine row next lt accepted known goes_on =
    let found = item_at image.points pc lt in
    let place = place-at image pc found.0 found.1 in
    let at = slice_get (places image) pc in
    let passes = none-refuses image r routine start pc place.0
    (sym (if_some (λ p. None ≡ refusal image r routine start pc p) at place.0 place.1 accepted)) in
    let row_is : place.0.row ≡ row = if_some (λ p. p.row ≡ row) at place.0 place.1 known in
    let held : wrong_slot found.0.instr row ≡ false = subst (λ i. wrong_slot i row ≡ false) place.2.instr
    (subst (λ r. wrong_slot place.0.instr r ≡ false) row_is passes.held) in
    goes_on (subst (λ r. names_empty_slot r ≡ false) row_is passes.named) (is_there found.0 found.1 held)
  where
    is_there : (point : Point) → slice_get image.points pc ≡ Some point → wrong_slot point.instr row ≡ false
        → IfSome (slice_get image.points pc) (λ point. wrong_slot point.instr row ≡ false)
    is_there point e held = rw e held
