-- A call on what was taken out of a handle, and is put back.
use Rattle.std.proofs.Common.{◌≡◌, ◌≤◌, ℕ, refl, sym, subst, arith}
use Rattle.takhvoi.specs.declared.system.System.{System}
use Rattle.takhvoi.specs.declared.handle.Handle.{Handle}
use Rattle.takhvoi.specs.Answers.{Done, On, Served}

-- it serves the handle
pub served : (own : ℕ → System → Type 0) (came : ℕ → System → System → Type 0) (status : ℕ) (old new : Handle) (before after : System)
    → (old.live ≡ 0 → ⊥) → before ≡ old.value → new.live ≡ 1 → new.value ≡ after → Done own came status before after
    → Served own came status old new
served own came status old new before after lives is live put done = (
  λ none. absurd (lives none),
  λ some. (live, subst (λ b. Done own came status b new.value) is (subst (λ a. Done own came status before a) (sym put) done)),
)

-- a number of the library's own, with which nothing was done
pub refused : (own : ℕ → System → Type 0) (came : ℕ → System → System → Type 0) (status : ℕ) (s : System) → 100 ≤ status → own status s
    → Done own came status s s
refused own came status s past is = (refl, refl, λ below. absurd (omega (arith, past, below)), λ _. (refl, is))

-- so is a range that no chunk has
pub past-served : (own : ℕ → System → Type 0) (came : ℕ → System → System → Type 0) (status : ℕ) (old new : Handle)
    → On (λ (a b : System). b ≡ a) status old new → ((old.live ≡ 0 → ⊥) → status ≡ 105) → (status ≡ 105 → own status old.value)
    → Served own came status old new
past-served own came status old new on is own_is = (
  on.0,
  λ some.
      let number = is some in (
        (on.1 some).0,
        subst (λ b. Done own came status old.value b) (sym (on.1 some).1)
            (refused own came status old.value (let n = number in omega (arith, n)) (own_is number)),
      ),
)
