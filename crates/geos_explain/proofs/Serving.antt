-- The reasons reported for a potential above its budget are true.
use Rattle.std.proofs.Common.{◌≡◌, ◌+◌, ◌≤◌, ◌⊎◌, ℕ, zero, suc, Bool, true, false, not, Option, Some, None, slice_get, refl, subst, inl, inr, arith}
use Rattle.std.specs.Prelude.{◌&&◌, nat_lt}
use Rattle.std.proofs.lemmas.Bool.{eqb-true}
use Rattle.geos_explain.specs.Below.{KnownPlace, places, bound, CounterUse, SetToWord}
use Rattle.geos_explain.proofs.Below.{and_parts, Instr, Point, Row, Parts, start_of, facts, calls, Ahead, elim_both}
use Rattle.geos_verify.specs.Rules.{call_misfits}
use Rattle.geos_explain.proofs.Leads.{leads-is}
use Rattle.geos_explain.specs.Budgets.{calls_on, calls_on_at, IsNeverServed, WhatIsSaidOfBudgetsHolds, takes, stays_unset, is_unset_at, takes_at, IsTakenUnset, WhatIsSaidOfCountersHolds, sets_to_any, sets_to_any_at, IsSetToAny, WhatIsSaidOfWordsHolds}
use Rattle.geos_explain.specs.Places.{Place, first_or, first_of}
use Rattle.geos_explain.specs.Since.{IsInside}
use Rattle.geos_explain.proofs.Holding.{inside-at}

-- what was found was found before, or is here
first-or : (first : Option ℕ) (pc : ℕ) (here : Bool) (from : ℕ) → first_or first pc here ≡ Some from
    → (first ≡ Some from) ⊎ ((here ≡ true) × (pc ≡ from))
first-or (Some before) pc here from is = inl is
first-or None pc true from is = inr (refl, cc)
first-or None pc false from is = absurd cc

-- if `first_of` returns an instruction of the routine, the predicate holds for it
first-of : (place : Place) (is : ℕ → Bool) (from n : ℕ) → n ≤ place.routine.count → first_of place is n ≡ Some from
    → (is from ≡ true) × IsInside place from
unfolding first_of
first-of place is from zero short none = absurd cc
first-of place is from (suc n) short found =
    let pc : ℕ = start_of place.image.routines place.r + n in
    elim (first-or (first_of place is n) pc (is pc) from found) [
      | inl before ↦ first-of place is from n (omega arith) before
      | inr here ↦ (subst (λ k. is k ≡ true) here.1 here.0, subst (IsInside place) here.1 (inside-at place 0 n (omega arith)))
    ]

-- a call of a routine that does not come earlier is refused, for every row
ahead-refused : (image : Parts) (r : ℕ) (i : Instr) (row : Row) → calls i.opcode ≡ true → not (nat_lt i.imm r) ≡ true
    → call_misfits image r i row ≡ true
unfolding call_misfits
ahead-refused image r i row called ahead = rw (called, ahead) refl

any-parts : (counter : CounterUse) (i : Instr) (row : Row) → sets_to_any counter i row ≡ true
    → (counter ≡ SetToWord) × (bound row i.b ≡ 65535)
any-parts SetToWord i row is = (refl, eqb-true (bound row i.b) 65535 is)
any-parts _ i row is = absurd cc

module _ (place : Place) where
  takes-unset : (k from : ℕ) → IsInside place from → takes_at place k from ≡ true → IsTakenUnset place k from
  unfolding takes_at
  takes-unset k from inside_here =
      let here = is_unset_at place k from in
      elim_both (slice_get place.image.points from) false (λ (point : Point). here && takes (facts point.instr.opcode).counter point.instr k)
      (λ b. b ≡ true → IsTakenUnset place k from) (λ none is. absurd cc) (λ point e is. (
      let tests = and_parts here (takes (facts point.instr.opcode).counter point.instr k) is in
      record {
        inside = inside_here;
        point = point;
        there = e;
        does = tests.1;
        way = (leads-is place.image Ahead (stays_unset place k) place.pc from).0 tests.0;
      }))

  calls-refused : (from : ℕ) → IsInside place from → calls_on_at place from ≡ true → IsNeverServed place from
  unfolding calls_on_at
  calls-refused from inside_here =
      elim_both (slice_get place.image.points from) false (λ (point : Point). calls_on place point.instr)
      (λ b. b ≡ true → IsNeverServed place from) (λ none is. absurd cc) (λ point e is. (
      let tests = and_parts (calls point.instr.opcode) (not (nat_lt point.instr.imm place.r)) is in
      record {
        inside = inside_here;
        point = point;
        there = e;
        refused = λ row. ahead-refused place.image place.r point.instr row tests.0 tests.1;
      }))

  any-set : (from : ℕ) → IsInside place from → sets_to_any_at place from ≡ true → IsSetToAny place from
  unfolding sets_to_any_at
  any-set from inside_here =
      elim_both (slice_get (places place.image) from) false
      (λ (known : KnownPlace). sets_to_any (facts known.instr.opcode).counter known.instr known.row)
      (λ b. b ≡ true → IsSetToAny place from) (λ none is. absurd cc) (λ known e is. (
      let is_so = any-parts (facts known.instr.opcode).counter known.instr known.row is in
      record { inside = inside_here; known = known; there = e; sets = is_so.0; any = is_so.1 }))

pub said_of_words : WhatIsSaidOfWordsHolds
said_of_words place from said =
    let found = first-of place (sets_to_any_at place) from place.routine.count (omega arith) said in
    any-set place from found.1 found.0

pub said_of_counters : WhatIsSaidOfCountersHolds
said_of_counters place k from said =
    let found = first-of place (takes_at place k) from place.routine.count (omega arith) said in
    takes-unset place k from found.1 found.0

pub said_of_budgets : WhatIsSaidOfBudgetsHolds
said_of_budgets place from said =
    let found = first-of place (calls_on_at place) from place.routine.count (omega arith) said in
    calls-refused place from found.1 found.0
