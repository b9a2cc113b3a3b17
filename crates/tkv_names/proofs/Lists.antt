-- Lists after a write, and from an index on.
use Rattle.std.proofs.Common.{◌≡◌, ◌<◌, ◌≤◌, ℕ, zero, suc, Option, Some, None, List, [], ◌∷◌, length, refl, ap, arith}
use Rattle.std.specs.Prelude.{drop, take, slice_get, slice_index, slice_set}

pub dropped : {A : Type 0} (xs : List A) (k : ℕ) (x : A) → slice_get xs k ≡ Some x → drop k xs ≡ x ∷ drop (suc k) xs
dropped [] k x e = absurd cc
dropped {A} (y ∷ ys) zero x e = ap (λ (z : A). z ∷ ys) (let f : y ≡ x = cc in f)
dropped (y ∷ ys) (suc k) x e = dropped ys k x e

pub set_length : (ws : List ℕ) (k n : ℕ) → length (slice_set ws k n) ≡ length ws
set_length [] k n = refl
set_length (w ∷ ws) zero n = refl
set_length (w ∷ ws) (suc k) n = ap suc (set_length ws k n)

pub index_same : (ws : List ℕ) (k n : ℕ) → k < length ws → slice_index (slice_set ws k n) k ≡ n
index_same [] k n lt = absurd (omega (arith, lt))
index_same (w ∷ ws) zero n lt = refl
index_same (w ∷ ws) (suc k) n lt = index_same ws k n (omega (arith, lt))

pub index_other : (ws : List ℕ) (k j n : ℕ) → (j ≡ k → ⊥) → slice_index (slice_set ws k n) j ≡ slice_index ws j
index_other [] k j n ne = refl
index_other (w ∷ ws) zero zero n ne = absurd (ne refl)
index_other (w ∷ ws) zero (suc j) n ne = refl
index_other (w ∷ ws) (suc k) zero n ne = refl
index_other (w ∷ ws) (suc k) (suc j) n ne = index_other ws k j n (λ e. ne (ap suc e))

-- what is read from a list of options after one is taken out was there before, elsewhere
pub taken_out : (hs : List (Option ℕ)) (k j a : ℕ) → slice_get (slice_set hs k None) j ≡ Some (Some a) → (slice_get hs j ≡ Some (Some a)) × (j ≡ k → ⊥)
taken_out [] k j a e = absurd cc
taken_out (h ∷ hs) zero zero a e = absurd cc
taken_out (h ∷ hs) zero (suc j) a e = (e, λ z. cc)
taken_out (h ∷ hs) (suc k) zero a e = (e, λ z. cc)
taken_out (h ∷ hs) (suc k) (suc j) a e = let more = taken_out hs k j a e in (more.0, λ z. more.1 (omega (arith, z)))

pub none_left : {A : Type 0} (xs : List A) (k : ℕ) → length xs ≤ k → drop k xs ≡ []
none_left [] zero le = refl
none_left [] (suc k) le = refl
none_left (x ∷ xs) zero le = absurd (omega (arith, le))
none_left (x ∷ xs) (suc k) le = none_left xs k (omega (arith, le))

pub taken : {A : Type 0} (xs : List A) (n k : ℕ) (x : A) → slice_get xs k ≡ Some x → k < n → slice_get (take n xs) k ≡ Some x
taken [] n k x e lt = absurd cc
taken (y ∷ ys) zero k x e lt = absurd (omega (arith, lt))
taken (y ∷ ys) (suc n) zero x e lt = e
taken (y ∷ ys) (suc n) (suc k) x e lt = taken ys n k x e (omega (arith, lt))

pub taken_all : {A : Type 0} (xs : List A) (n : ℕ) → drop n (take n xs) ≡ []
taken_all [] zero = refl
taken_all [] (suc n) = refl
taken_all (x ∷ xs) zero = refl
taken_all (x ∷ xs) (suc n) = taken_all xs n

-- what is read from a list after one is put in
pub put_same : {A : Type 0} (xs : List A) (k : ℕ) (old new : A) → slice_get xs k ≡ Some old → slice_get (slice_set xs k new) k ≡ Some new
put_same [] k old new e = absurd cc
put_same (x ∷ xs) zero old new e = refl
put_same (x ∷ xs) (suc k) old new e = put_same xs k old new e

pub put_other : {A : Type 0} (xs : List A) (k j : ℕ) (new : A) → (j ≡ k → ⊥) → slice_get (slice_set xs k new) j ≡ slice_get xs j
put_other [] k j new ne = refl
put_other (x ∷ xs) zero zero new ne = absurd (ne refl)
put_other (x ∷ xs) zero (suc j) new ne = refl
put_other (x ∷ xs) (suc k) zero new ne = refl
put_other (x ∷ xs) (suc k) (suc j) new ne = put_other xs k j new (λ e. ne (ap suc e))
