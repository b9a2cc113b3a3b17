-- The points that are found are accepted, where some with the same code are.
use Rattle.std.proofs.Common.{◌≡◌, ℕ, ◌+◌, ◌*◌, ◌≤◌, Bool, true, false, not, List, [], ◌∷◌, Option, Some, None, slice_get, get_or, set, refl, sym, ap, ◌∙◌, subst, arith}
use Rattle.std.specs.Prelude.{◌&&◌, ◌||◌, ◌==◌, nat_le, nat_lt}
use Rattle.std.specs.List.{list_any}
use Rattle.std.proofs.lemmas.Bool.{and_parts, or_parts, leb-true, le-leb, eqb-true, not-false}
use Rattle.geos_terms.specs.Refusals.{first_refusal}
use Rattle.geos_opcodes.specs.declared.opcode.Opcode.{Opcode}
use Rattle.geos_opcodes.specs.declared.opcode.Opcode.TheVariants.{Setk, Setkw, Loop, Call}
use Rattle.geos_image.specs.declared.instr.Instr.{Instr}
use Rattle.geos_image.specs.declared.row.Row.{Row}
use Rattle.geos_image.specs.declared.potential.Potential.{Potential}
use Rattle.geos_image.specs.declared.routine.Routine.{Routine}
use Rattle.geos_image.specs.declared.point.Point.{Point}
use Rattle.geos_image.specs.Parts.{Parts}
use Rattle.geos_verify.specs.Lists.{all2}
use Rattle.geos_image.specs.Keys.{falls_through, branches}
use Rattle.geos_verify.specs.declared.place.Place.{Place}
use Rattle.geos_verify.specs.Places.{places, at_place}
use Rattle.geos_verify.specs.Rows.{at_point, bound, fits, may_enter, may_leave, row_along, row_branching}
use Rattle.geos_verify.specs.Touched.{calls, touches}
use Rattle.geos_verify.specs.Potentials.{pays, pays_setting, pays_taking, pays_calling, budget_of, pays_along, pays_branching, is_within}
use Rattle.geos_verify.specs.Rules.{returns, leaves_routine, names_empty_slot, entry_misfits, call_misfits, misfits_at, edge_misfits, unpaid_along, unpaid_branching, edge_unpaid, over_budget, tests, refusal}
use Rattle.geos_verify.proofs.Places.{place-at}
use Rattle.geos_verify.proofs.Passed.{Passed, none-refuses}
use Rattle.geos_counters.specs.Steps.{call_steps}
use Rattle.geos_counters.specs.Counters.{zeros}
use Rattle.geos_infer.specs.Points.{potential_of}
use Rattle.geos_verify.proofs.Pairwise.{both}
use Rattle.geos_potentials.proofs.Asks.{zero-at, set-zero, called}
use Rattle.geos_verify.proofs.Passing.{neither, not-both, second-false, true-not, MayStand, may_stand-mono}

-- Tests

all-pass : {R : Type 0} (tests : List (Bool × R)) → Passed tests → first_refusal tests ≡ None
all-pass [] p = refl
all-pass (test ∷ tests) p = rw p.0 (all-pass tests p.1)

-- Potentials that are the same whatever the counters are

pays-zero : (m n : ℕ) → n + 1 ≤ m → pays (potential_of m) (potential_of n) ≡ true
pays-zero m n h = both (nat_le (n + 1) m) true (le-leb (n + 1) m h) refl

setting-zero : (k x m n : ℕ) → n + 1 ≤ m → pays_setting k x (potential_of m) (potential_of n) ≡ true
setting-zero k x m n h =
    let zero_k = zero-at k in
    let price : get_or zeros k 0 * x ≡ 0 = rw zero_k (omega arith) in
    both (nat_le (n + 1 + get_or zeros k 0 * x) m) (all2 nat_le (set zeros k 0) zeros)
    (le-leb (n + 1 + get_or zeros k 0 * x) m (omega arith)) (rw (set-zero k) refl)

taking-zero : (k m n : ℕ) → n + 1 ≤ m → pays_taking k (potential_of m) (potential_of n) ≡ true
taking-zero k m n h = both (nat_le (n + 1) (m + get_or zeros k 0)) true (le-leb (n + 1) (m + get_or zeros k 0) (omega arith)) refl

or-true : (b : Bool) → (b || true) ≡ true
or-true true = refl
or-true false = refl

-- no coefficient is left on any counter
spent-zero : (a b c d : Bool) → all2 (λ is_touched k. not is_touched || k == 0) (a ∷ b ∷ c ∷ d ∷ []) zeros ≡ true
spent-zero a b c d = rw (or-true (not a), or-true (not b), or-true (not c), or-true (not d)) refl

calling-zero : (budget m n : ℕ) (a b c d : Bool) → n + 1 + budget ≤ m → pays_calling budget (a ∷ b ∷ c ∷ d ∷ [])
    (potential_of m) (potential_of n) ≡ true
calling-zero budget m n a b c d h =
    both (nat_le (n + 1 + budget) m && true) (all2 (λ is_touched k. not is_touched || k == 0) (a ∷ b ∷ c ∷ d ∷ []) zeros)
    (both (nat_le (n + 1 + budget) m) true (le-leb (n + 1 + budget) m h) refl) (spent-zero a b c d)

without-call : (m n : ℕ) → n + 1 + 0 ≤ m → n + 1 ≤ m
without-call m n h = omega arith

along-zero : (image : Parts) (i : Instr) (opcode : Opcode) (row : Row) (m n : ℕ) → n + 1 + called image i opcode ≤ m
    → pays_along image i opcode row (potential_of m) (potential_of n) ≡ true
along-zero image i Setk row m n h = setting-zero i.a i.imm m n (omega arith)
along-zero image i Setkw row m n h = setting-zero i.a (bound row i.b) m n (omega arith)
along-zero image i Loop row m n h = setting-zero i.a 0 m n (omega arith)
along-zero image i Call row m n h = calling-zero (budget_of image i.imm) m n (touches image 0 i.imm) (touches image 1 i.imm)
    (touches image 2 i.imm) (touches image 3 i.imm) h
along-zero image i _ row m n h = pays-zero m n (without-call m n h)

branching-zero : (i : Instr) (opcode : Opcode) (m n : ℕ) → n + 1 ≤ m → pays_branching i opcode (potential_of m) (potential_of n) ≡ true
branching-zero i Loop m n h = taking-zero i.a m n h
branching-zero i _ m n h = pays-zero m n h

-- One point

-- what is found at a pc, beside a point there that is accepted
pub record Beside (found : Parts) (routine : Routine) (start pc : ℕ) (i : Instr) (row wanted : Row) (steps : ℕ) : Type 0 where
  pub below : fits row wanted ≡ true
  pub clean : names_empty_slot row ≡ false
  pub entry : pc ≡ start → fits routine.entry row ≡ true
  pub along : (next : Place) → falls_through i.opcode ≡ true → slice_get (places found) (pc + 1) ≡ Some next
      → (fits (row_along found i i.opcode row) next.row ≡ true) × ((n : ℕ) × (next.potential ≡ potential_of n) × (n + 1 + call_steps found i ≤ steps))
  pub branch : (next : Place) → branches i.opcode ≡ true → slice_get (places found) i.target ≡ Some next
      → (fits (row_branching i i.opcode row) next.row ≡ true) × ((n : ℕ) × (next.potential ≡ potential_of n) × (n + 1 + call_steps found i ≤ steps))
  pub return : returns i.opcode ≡ true → 1 ≤ steps

pub at-point-true : (image : Parts) (pc : ℕ) (test : Point → Bool) (o : Option Point) → slice_get image.points pc ≡ o
    → ((point : Point) → slice_get image.points pc ≡ Some point → test point ≡ true) → at_point image pc test ≡ true
at-point-true image pc test None e h = rw (e, at_point) refl
at-point-true image pc test (Some point) e h = rw (e, at_point) (h point e)

pub at-place-true : (image : Parts) (pc : ℕ) (test : Place → Bool) (o : Option Place) → slice_get (places image) pc ≡ o
    → ((place : Place) → slice_get (places image) pc ≡ Some place → test place ≡ true) → at_place image pc test ≡ true
at-place-true image pc test None e h = rw (e, at_place) refl
at-place-true image pc test (Some place) e h = rw (e, at_place) (h place e)

-- the rule on calls reads no more of an image than its routines
same-call : (image other : Parts) → other.routines ≡ image.routines → (r : ℕ) (i : Instr) (row : Row)
    → call_misfits other r i row ≡ call_misfits image r i row
unfolding call_misfits
same-call image other same r i row =
    ap (λ (routines : List Routine). calls i.opcode &&
    (not (nat_lt i.imm r) || not (elim (slice_get routines i.imm) [ None ↦ true | Some routine ↦ fits row routine.entry ]))) same

pub accepts : (o found : Parts) → o.routines ≡ found.routines → (r : ℕ) (routine : Routine) (start pc : ℕ) (i : Instr)
    (row wanted : Row) (steps : ℕ) (potential : Potential) → steps ≤ potential.constant
    → refusal o r routine start pc (record { instr = i; row = wanted; potential = potential }) ≡ None
    → Beside found routine start pc i row wanted steps
    → refusal found r routine start pc (record { instr = i; row = row; potential = potential_of steps }) ≡ None
unfolding leaves_routine entry_misfits misfits_at edge_misfits unpaid_along unpaid_branching edge_unpaid over_budget
accepts o found same r routine start pc i row wanted steps potential le accepted B =
    let all = none-refuses o r routine start pc (record { instr = i; row = wanted; potential = potential }) accepted in
    let may : MayStand o r routine i wanted = record {
      fresh = all.fresh;
      within = all.within;
      marked = all.marked;
      unheld = all.unheld;
      held = all.held;
      freed = all.freed;
      call = all.call;
      exit = all.exit;
    } in
    let here = may_stand-mono o r routine i row wanted B.below may in
    let call = sym (same-call found o same r i row) ∙ here.call in
    all-pass (tests found r routine start pc (record { instr = i; row = row; potential = potential_of steps })) (
      all.stays,
      (
        B.clean,
        (
          entry all.entry,
          (
            here.fresh,
            (
              here.within,
              (here.marked, (here.unheld, (here.held, (here.freed, (call, (here.exit, (edges, (paid, (budget all.budget, tt))))))))),
            ),
          ),
        ),
      ),
    )
  where
    entry : entry_misfits routine start pc wanted ≡ false → entry_misfits routine start pc row ≡ false
    entry h = not-both (pc == start) _ (λ at.
        let other = second-false (pc == start)
        (not (fits routine.entry wanted) || (routine.public && not (may_enter routine.entry && may_leave routine.entry routine.exit))) h at in
        let parts = or_parts (not (fits routine.entry wanted))
        (routine.public && not (may_enter routine.entry && may_leave routine.entry routine.exit)) other in
        neither (not (fits routine.entry row)) (routine.public && not (may_enter routine.entry && may_leave routine.entry routine.exit))
        (true-not (fits routine.entry row) (B.entry (eqb-true pc start at))) parts.1)

    edges : edge_misfits found pc i row ≡ false
    edges = neither (falls_through i.opcode && misfits_at found (pc + 1) (row_along found i i.opcode row))
        (branches i.opcode && misfits_at found i.target (row_branching i i.opcode row))
        (not-both (falls_through i.opcode) (misfits_at found (pc + 1) (row_along found i i.opcode row)) (λ falls.
        true-not (at_place found (pc + 1) (λ next. fits (row_along found i i.opcode row) next.row))
        (at-place-true found (pc + 1) (λ next. fits (row_along found i i.opcode row) next.row)
        (slice_get (places found) (pc + 1)) refl (λ next e. (B.along next falls e).0))))
        (not-both (branches i.opcode) (misfits_at found i.target (row_branching i i.opcode row)) (λ goes.
        true-not (at_place found i.target (λ next. fits (row_branching i i.opcode row) next.row))
        (at-place-true found i.target (λ next. fits (row_branching i i.opcode row) next.row) (slice_get (places found) i.target)
        refl (λ next e. (B.branch next goes e).0))))

    paid-along : (next : Point) → falls_through i.opcode ≡ true → slice_get found.points (pc + 1) ≡ Some next
        → pays_along found i i.opcode row (potential_of steps) next.potential ≡ true
    paid-along next falls e =
        let there = place-at found (pc + 1) next e in
        let next_pays = (B.along there.0 falls there.1).1 in
        let P : Potential → Type 0 = λ q. pays_along found i i.opcode row (potential_of steps) q ≡ true in
        subst P (sym next_pays.1 ∙ there.2.potential) (along-zero found i i.opcode row steps next_pays.0 next_pays.2)

    paid-branching : (next : Point) → branches i.opcode ≡ true → slice_get found.points i.target ≡ Some next
        → pays_branching i i.opcode (potential_of steps) next.potential ≡ true
    paid-branching next goes e =
        let there = place-at found i.target next e in
        let next_pays = (B.branch there.0 goes there.1).1 in
        let P : Potential → Type 0 = λ q. pays_branching i i.opcode (potential_of steps) q ≡ true in
        subst P (sym next_pays.1 ∙ there.2.potential) (branching-zero i i.opcode steps next_pays.0 (let enough = next_pays.2 in omega arith))

    some-steps : (n : ℕ) → 1 ≤ n → (n == 0) ≡ false
    some-steps n h = by_test (n == 0) refl
      where
        by_test : (b : Bool) → (n == 0) ≡ b → (n == 0) ≡ false
        by_test true e = let none = eqb-true n 0 e in absurd (omega arith)
        by_test false e = e

    paid : edge_unpaid found pc i row (potential_of steps) ≡ false
    paid = neither ((falls_through i.opcode && unpaid_along found pc i row (potential_of steps)) ||
        (branches i.opcode && unpaid_branching found i (potential_of steps))) (returns i.opcode && steps == 0)
        (neither (falls_through i.opcode && unpaid_along found pc i row (potential_of steps))
        (branches i.opcode && unpaid_branching found i (potential_of steps))
        (not-both (falls_through i.opcode) (unpaid_along found pc i row (potential_of steps)) (λ falls.
        true-not (at_point found (pc + 1) (λ next. pays_along found i i.opcode row (potential_of steps) next.potential))
        (at-point-true found (pc + 1) (λ next. pays_along found i i.opcode row (potential_of steps) next.potential)
        (slice_get found.points (pc + 1)) refl (λ next e. paid-along next falls e))))
        (not-both (branches i.opcode) (unpaid_branching found i (potential_of steps)) (λ goes.
        true-not (at_point found i.target (λ next. pays_branching i i.opcode (potential_of steps) next.potential))
        (at-point-true found i.target (λ next. pays_branching i i.opcode (potential_of steps) next.potential)
        (slice_get found.points i.target) refl (λ next e. paid-branching next goes e)))))
        (not-both (returns i.opcode) (steps == 0) (λ is. some-steps steps (B.return is)))

    budget : over_budget routine start pc potential ≡ false → over_budget routine start pc (potential_of steps) ≡ false
    budget h = not-both (pc == start) (not (is_within routine.budget (potential_of steps))) (λ at.
        let within = not-false (is_within routine.budget potential) (second-false (pc == start) (not (is_within routine.budget potential)) h at) in
        let parts = and_parts (nat_le potential.constant routine.budget) (not (list_any (λ k. nat_lt 0 k) potential.coefficients)) within in
        let most = leb-true potential.constant routine.budget parts.0 in
        true-not (is_within routine.budget (potential_of steps))
        (both (nat_le steps routine.budget) true (le-leb steps routine.budget (omega arith)) refl))
