-- Routines that do not have a name.
use Rattle.std.proofs.Common.{◌≡◌, ◌∙◌, ◌<◌, ℕ, true, false, List, [], ◌∷◌, length, slice_get, zero, suc, refl, ap, sym, arith}
use Rattle.std.proofs.lemmas.Bool.{eq-eqb, false≢true}
use Rattle.std.specs.Prelude.{IfSome}
use lib.Dec.{eqb}
use lib.Pointwise.{pointwise}

self-same : (xs : List ℕ) → pointwise eqb xs xs ≡ true
self-same [] = refl
self-same (x ∷ xs) = rw (eq-eqb x x refl) (self-same xs)

-- lists that a test finds to differ do
pub differ : (xs ys : List ℕ) → false ≡ pointwise eqb xs ys → xs ≡ ys → ⊥
differ xs ys is same = false≢true (is ∙ sym (ap (pointwise eqb xs) same) ∙ self-same xs)

-- past the last element there is none
pub none-past : {X : Type 0} (xs : List X) (P : X → Type 0) → ((n : ℕ) → n < length xs → IfSome (slice_get xs n) P)
    → (n : ℕ) → IfSome (slice_get xs n) P
none-past [] P all n = tt
none-past (x ∷ xs) P all zero = all zero (omega arith)
none-past (x ∷ xs) P all (suc n) = none-past xs P (λ m below. all (suc m) (omega (arith, below))) n
