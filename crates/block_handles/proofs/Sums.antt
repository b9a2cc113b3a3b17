-- Sums over the blocks that lie in a range.
use Rattle.std.proofs.Common.{◌≡◌, ◌≢◌, ℕ, zero, suc, ◌+◌, ◌≤◌, ◌<◌, ◌⊎◌, refl, ap, sym, arith, inl, inr}
use Rattle.std.proofs.lemmas.Bool.{cases_eq}
use Rattle.std.proofs.lemmas.Bool.Decides.{nat_tests}
use Rattle.block_handles.specs.Store.{Store, size_of, locks_of, place_of, end_of}
use Rattle.block_handles.specs.Stretch.{total, only_in, other_size, unlocked_size, locked_one}

pub total-same : (n : ℕ) (f g : ℕ → ℕ) → ((j : ℕ) → f j ≡ g j) → total n f ≡ total n g
total-same zero f g h = refl
total-same (suc n) f g h = λ k. h n k + total-same n f g h k

pub total-none : (n : ℕ) (f : ℕ → ℕ) → ((j : ℕ) → f j ≡ 0) → total n f ≡ 0
total-none zero f h = refl
total-none (suc n) f h = omega (arith, h n, total-none n f h)

pub total-both : (n : ℕ) (f g h : ℕ → ℕ) → ((j : ℕ) → f j + g j ≡ h j) → total n f + total n g ≡ total n h
total-both zero f g h e = refl
total-both (suc n) f g h e = omega (arith, e n, total-both n f g h e)

-- sums of two functions that differ at only one number
pub total-one : (n : ℕ) (f g : ℕ → ℕ) (i : ℕ) → i < n → ((j : ℕ) → j ≢ i → f j ≡ g j) → total n f + g i ≡ total n g + f i
total-one zero f g i small h = absurd (omega arith)
total-one (suc n) f g i small h = elim (cases_eq i n) as (λ _. f n + total n f + g i ≡ g n + total n g + f i) [
  | inl e ↦ omega (arith, ap f e, ap g e, below n f g i h (omega arith))
  | inr ne ↦ omega (arith, h n (λ z. ne (sym z)), total-one n f g i (omega arith) h)
]
  where
    below : (m : ℕ) (f g : ℕ → ℕ) (i : ℕ) → ((j : ℕ) → j ≢ i → f j ≡ g j) → m ≤ i → total m f ≡ total m g
    below zero f g i h le = refl
    below (suc m) f g i h le = let ne : m ≢ i = omega arith in omega (arith, h m ne, below m f g i h (omega arith))

module _ (S : Store) (from until : ℕ) (f : ℕ → ℕ) (j : ℕ) where
  pub in_range : from ≤ place_of S j → end_of S j ≤ until → only_in S from until f j ≡ f j
  in_range low high = grind (arith, nat_tests)

  pub off_range : (place_of S j < from) ⊎ (until < end_of S j) → only_in S from until f j ≡ 0
  off_range (inl low) = grind (arith, nat_tests)
  off_range (inr high) = grind (arith, nat_tests)

  pub no_weight : f j ≡ 0 → only_in S from until f j ≡ 0
  no_weight z = grind (arith, nat_tests)

module _ (S : Store) (but j : ℕ) where
  pub other-but : j ≡ but → other_size S but j ≡ 0
  other-but e = grind (arith, nat_tests)

  pub other-other : j ≢ but → other_size S but j ≡ size_of S j
  other-other ne = grind (arith, nat_tests)

  pub unlocked-but : j ≡ but → unlocked_size S but j ≡ 0
  unlocked-but e = grind (arith, nat_tests)

  pub unlocked-other : j ≢ but → locks_of S j ≡ 0 → unlocked_size S but j ≡ size_of S j
  unlocked-other ne z = grind (arith, nat_tests)

  pub one-but : j ≡ but → locked_one S but j ≡ 0
  one-but e = grind (arith, nat_tests)

  pub one-unlocked : locks_of S j ≡ 0 → locked_one S but j ≡ 0
  one-unlocked z = grind (arith, nat_tests)

  pub one-locked : j ≢ but → 0 < locks_of S j → locked_one S but j ≡ 1
  one-locked ne z = grind (arith, nat_tests)

  pub unlocked-none : size_of S j ≡ 0 → unlocked_size S but j ≡ 0
  unlocked-none z = grind (arith, nat_tests)
