-- What commands print, and when it is given.
use Rattle.std.specs.Prelude.{◌≡◌, ◌⊎◌, ℕ, Bool, true, decimal, codes, List, [], ◌∷◌, ◌++◌, flat_map, Result, Ok, Err}
use Rattle.geos_terms.specs.declared.refusal.Refusal.{Refusal}
use Rattle.geos_terms.specs.Refusals.{refusal_number}

-- each word in decimal, on a line
abbrev pub printed : List ℕ → List ℕ
printed words = flat_map (λ word. decimal word ++ 10 ∷ []) words

-- nothing of what was done, or the number of the refusal, on a line
abbrev pub committed : Result (Unit {0}) Refusal → List ℕ
committed (Ok done) = []
committed (Err refusal) = codes "refused " ++ (decimal (refusal_number refusal) ++ 10 ∷ [])

-- nothing was ever asked of a writer, or the last call of it was a flush that did not fail
abbrev pub IsGiven : ℕ → Bool → Type 0
IsGiven asked flushed = (asked ≡ 0) ⊎ (flushed ≡ true)
