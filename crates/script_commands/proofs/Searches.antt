-- The first place at which a test passes, element by element.
use Rattle.std.proofs.Common.{◌≡◌, ℕ, zero, suc, ◌+◌, Bool, true, false, List, [], ◌∷◌, drop, Some, refl, arith}
use Rattle.std.specs.Prelude.{slice_get}
use Rattle.std.specs.List.{position_from}

module _ {A : Type 0} (test : A → Bool) where
  pub position_from-found : (xs : List A) (i n : ℕ) (x : A) → slice_get xs i ≡ Some x → test x ≡ true → position_from test n (drop i xs) ≡ Some n
  position_from-found [] i n x there passes = absurd cc
  position_from-found (y ∷ xs) zero n x there passes = let same : y ≡ x = cc in rw (same, passes) refl
  position_from-found (y ∷ xs) (suc i) n x there passes = position_from-found xs i n x there passes

  pub position_from-more : (xs : List A) (i n : ℕ) (x : A) → slice_get xs i ≡ Some x → test x ≡ false
      → position_from test n (drop i xs) ≡ position_from test (n + 1) (drop (i + 1) xs)
  position_from-more [] i n x there fails = absurd cc
  position_from-more (y ∷ xs) zero n x there fails = let same : y ≡ x = cc in rw (same, fails) refl
  position_from-more (y ∷ xs) (suc i) n x there fails =
      let next : suc i + 1 ≡ suc (i + 1) = omega arith in
      rw next (position_from-more xs i n x there fails)
