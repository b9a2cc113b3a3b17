-- Relations between lists, place by place.
use Rattle.std.proofs.Common.{◌≡◌, ℕ, zero, suc, ◌≤◌, Bool, true, List, [], ◌∷◌, get_or, set, arith, ◌-◌, ◌<◌, ◌+◌, ◌*◌, refl}
use Rattle.std.specs.Prelude.{nat_le}
use Rattle.std.proofs.lemmas.Bool.{and_parts, leb-true}
use Rattle.std.proofs.Math.Nat.{mul-le-mul_right}
use Rattle.geos_verify.specs.Lists.{all2}
use Rattle.geos_semantics.specs.Lists.{Each2}

module _ {X Y : Type 0} (R : X → Y → Type 0) where
  pub each2-set : (xs : List X) (ys : List Y) (i : ℕ) (x : X) (y : Y) → Each2 R xs ys → R x y → Each2 R (set xs i x) (set ys i y)
  each2-set [] [] i x y h r = tt
  each2-set [] (v ∷ ys) i x y h r = absurd h
  each2-set (u ∷ xs) [] i x y h r = absurd h
  each2-set (u ∷ xs) (v ∷ ys) zero x y h r = (r, h.1)
  each2-set (u ∷ xs) (v ∷ ys) (suc i) x y h r = (h.0, each2-set xs ys i x y h.1 r)

  pub each2-get : (xs : List X) (ys : List Y) (i : ℕ) (x : X) (y : Y) → Each2 R xs ys → R x y → R (get_or xs i x) (get_or ys i y)
  each2-get [] [] i x y h r = r
  each2-get [] (v ∷ ys) i x y h r = absurd h
  each2-get (u ∷ xs) [] i x y h r = absurd h
  each2-get (u ∷ xs) (v ∷ ys) zero x y h r = h.0
  each2-get (u ∷ xs) (v ∷ ys) (suc i) x y h r = each2-get xs ys i x y h.1 r

-- a test of two lists, as a relation
pub each2-from_test : {X Y : Type 0} (test : X → Y → Bool) (xs : List X) (ys : List Y) → all2 test xs ys ≡ true → Each2 (λ x y. test x y ≡ true) xs ys
each2-from_test test [] [] h = tt
each2-from_test test [] (y ∷ ys) h = absurd cc
each2-from_test test (x ∷ xs) [] h = absurd cc
each2-from_test test (x ∷ xs) (y ∷ ys) h = let p = and_parts (test x y) (all2 test xs ys) h in (p.0, each2-from_test test xs ys p.1)

pub each2-trans : {X Y Z : Type 0} (P : X → Y → Type 0) (Q : Y → Z → Type 0) (R : X → Z → Type 0) → ((x : X) (y : Y) (z : Z) → P x y → Q y z → R x z)
    → (xs : List X) (ys : List Y) (zs : List Z) → Each2 P xs ys → Each2 Q ys zs → Each2 R xs zs
each2-trans P Q R k [] [] [] h j = tt
each2-trans P Q R k [] [] (z ∷ zs) h j = absurd j
each2-trans P Q R k [] (y ∷ ys) zs h j = absurd h
each2-trans P Q R k (x ∷ xs) [] zs h j = absurd h
each2-trans P Q R k (x ∷ xs) (y ∷ ys) [] h j = absurd j
each2-trans P Q R k (x ∷ xs) (y ∷ ys) (z ∷ zs) h j = (k x y z h.0 j.0, each2-trans P Q R k xs ys zs h.1 j.1)

-- the same where the second relation is given from the last list to the second
pub each2-trans_back : {X Y Z : Type 0} (P : Y → X → Type 0) (Q : Y → Z → Type 0) (R : X → Z → Type 0)
    → ((x : X) (y : Y) (z : Z) → P y x → Q y z → R x z)
    → (xs : List X) (ys : List Y) (zs : List Z) → Each2 P ys xs → Each2 Q ys zs → Each2 R xs zs
each2-trans_back P Q R k [] [] [] h j = tt
each2-trans_back P Q R k [] [] (z ∷ zs) h j = absurd j
each2-trans_back P Q R k [] (y ∷ ys) zs h j = absurd h
each2-trans_back P Q R k (x ∷ xs) [] zs h j = absurd h
each2-trans_back P Q R k (x ∷ xs) (y ∷ ys) [] h j = absurd j
each2-trans_back P Q R k (x ∷ xs) (y ∷ ys) (z ∷ zs) h j = (k x y z h.0 j.0, each2-trans_back P Q R k xs ys zs h.1 j.1)
