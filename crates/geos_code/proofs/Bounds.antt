-- Numbers that are at most others, each at its place.
use Rattle.std.proofs.Common.{◌≡◌, ◌≤◌, ℕ, zero, suc, true, List, [], ◌∷◌, arith}
use Rattle.std.specs.Prelude.{nat_le, slice_index}
use Rattle.std.proofs.lemmas.Bool.{and_parts, leb-true}
use Rattle.geos_verify.specs.Lists.{all2}

pub bound-at : (xs us : List ℕ) (k : ℕ) → all2 nat_le xs us ≡ true → slice_index xs k ≤ slice_index us k
bound-at [] [] k h = omega arith
bound-at [] (u ∷ us) k h = absurd cc
bound-at (x ∷ xs) [] k h = absurd cc
bound-at (x ∷ xs) (u ∷ us) zero h = leb-true x u ((and_parts (nat_le x u) (all2 nat_le xs us) h).0)
bound-at (x ∷ xs) (u ∷ us) (suc k) h = bound-at xs us k ((and_parts (nat_le x u) (all2 nat_le xs us) h).1)
