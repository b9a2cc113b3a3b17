-- What a call leaves is legal.
use Rattle.std.proofs.Common.{◌≡◌, ℕ, ◌+◌, ◌≤◌, false, ◌==◌, Option, Some, None, refl, subst, arith}
use Rattle.std.proofs.lemmas.Bool.Decides.{nat_tests}
use Rattle.geos_terms.specs.declared.refusal.Refusal.{Refusal}
use Rattle.geos_terms.specs.Refusals.{first_refusal}
use Rattle.geos_calls.specs.Memory.{Memory}
use Rattle.geos_calls.specs.Effects.{Effect, come_to, outcome, most_locks}
use Rattle.geos_calls.specs.Legal.{IsMemory}

come_to-kept : {A : Type 0} (refusal : Option Refusal) (left : Refusal → Memory) (answer : A) (after : Memory) → ((r : Refusal) → IsMemory (left r)) →
    (refusal ≡ None → IsMemory after) → IsMemory (come_to refusal left answer after).1
come_to-kept None left answer after refused done = done refl
come_to-kept (Some r) left answer after refused done = refused r

-- a call leaves memory legal where each refusal does, and where it does when no refusal comes
pub outcome-kept : {A : Type 0} (effect : Effect A) → ((r : Refusal) → IsMemory (effect.left r))
    → (first_refusal effect.refusals ≡ None → IsMemory effect.after) → IsMemory (outcome effect).1
outcome-kept effect refused done = come_to-kept (first_refusal effect.refusals) effect.left effect.answer effect.after refused done

-- where no refusal comes, what a call leaves is memory after it
pub after-kept : {A : Type 0} (effect : Effect A) → IsMemory (outcome effect).1 → first_refusal effect.refusals ≡ None → IsMemory effect.after
after-kept effect legal passed = subst (λ o. IsMemory (come_to o effect.left effect.answer effect.after).1) passed legal

-- a count that is not the greatest may rise
pub locks-rise : (n : ℕ) → (n == most_locks) ≡ false → n ≤ most_locks → n + 1 ≤ most_locks
locks-rise n h most = grind (arith, nat_tests)
