-- Calls with tests before their own.
use Rattle.std.proofs.Common.{◌≡◌, ◌∙◌, List, Option, Some, None, Bool, ◌++◌, refl, sym, ap}
use Rattle.std.specs.Prelude.{Result, Ok, Err}
use Rattle.geos_terms.specs.declared.refusal.Refusal.{Refusal}
use Rattle.geos_terms.specs.Refusals.{first_refusal}
use Rattle.geos_calls.specs.Effects.{Effect, come_to, outcome}
use Rattle.geos_calls.specs.Memory.{Memory}
use Rattle.geos_calls.proofs.Laws.{first_refusal-passed}

module _ {A : Type 0} where
  -- nothing was refused
  pub came-ok : (o : Option Refusal) (left : Refusal → Memory) (answer a : A) (after n : Memory)
      → come_to o left answer after ≡ (Ok a, n) → (o ≡ None) × (answer ≡ a) × (after ≡ n)
  came-ok None left answer a after n e =
      let first : ◌≡◌ {A = Result A Refusal} (Ok answer) (Ok a) = ap (λ p. p.0) e in
      let same : answer ≡ a = cc in (refl, same, ap (λ p. p.1) e)
  came-ok (Some r) left answer a after n e = let first : ◌≡◌ {A = Result A Refusal} (Err r) (Ok a) = ap (λ p. p.0) e in absurd cc

  -- this was
  pub came-err : (o : Option Refusal) (left : Refusal → Memory) (answer : A) (why : Refusal) (after n : Memory)
      → come_to o left answer after ≡ (Err why, n) → (o ≡ Some why) × (left why ≡ n)
  came-err None left answer why after n e = let first : ◌≡◌ {A = Result A Refusal} (Ok answer) (Err why) = ap (λ p. p.0) e in absurd cc
  came-err (Some r) left answer why after n e =
      let first : ◌≡◌ {A = Result A Refusal} (Err r) (Err why) = ap (λ p. p.0) e in
      let same : r ≡ why = cc in (ap Some same, ap left (sym same) ∙ ap (λ p. p.1) e)

-- a call that does something after its own change, with these tests first
module _ {A : Type 0} (tests : List (Bool × Refusal)) (passed : first_refusal tests ≡ None) (behind : Memory → Memory) (effect : Effect A) where
  -- what it comes to
  abbrev pub fronted : Result A Refusal × Memory
  fronted = come_to (first_refusal (tests ++ effect.refusals)) effect.left effect.answer (behind effect.after)

  tried : first_refusal (tests ++ effect.refusals) ≡ first_refusal effect.refusals
  tried = first_refusal-passed tests effect.refusals passed

  pub fronted-ok : (a : A) (n : Memory) → outcome effect ≡ (Ok a, n) → fronted ≡ (Ok a, behind n)
  fronted-ok a n comes =
      let c = came-ok (first_refusal effect.refusals) effect.left effect.answer a effect.after n comes in
      ap (λ o. come_to o effect.left effect.answer (behind effect.after)) (tried ∙ c.0) ∙ (λ k. (Ok (c.1 k), behind (c.2 k)))

  pub fronted-err : (why : Refusal) (n : Memory) → outcome effect ≡ (Err why, n) → fronted ≡ (Err why, n)
  fronted-err why n comes =
      let c = came-err (first_refusal effect.refusals) effect.left effect.answer why effect.after n comes in
      ap (λ o. come_to o effect.left effect.answer (behind effect.after)) (tried ∙ c.0) ∙ ap (λ m. (Err why, m)) c.1
