-- Lists in which elements are put and set.
use Rattle.std.proofs.Common.{◌≡◌, ◌+◌, ◌<◌, ◌≤◌, ℕ, zero, suc, Bool, true, false, not, List, [], ◌∷◌, ◌++◌, length, Option, Some, None}
use Rattle.std.proofs.Common.{is_none, is_some, slice_get, slice_index_or, slice_set, refl, ap, sym, subst, below_more, arith}
use Rattle.geos_image.specs.Parts.{Parts}
use Rattle.takhvoi.specs.Images.{IsLowestFree}

-- elements stay the same if one is appended
pub stays_behind : {X : Type 0} (xs : List X) (y : X) (n : ℕ) (x : X) → slice_get xs n ≡ Some x → slice_get (xs ++ y ∷ []) n ≡ Some x
stays_behind [] y n x e = absurd cc
stays_behind (z ∷ xs) y zero x e = e
stays_behind (z ∷ xs) y (suc n) x e = stays_behind xs y n x e

-- which is the last
pub is_last : {X : Type 0} (xs : List X) (y : X) → slice_get (xs ++ y ∷ []) (length xs) ≡ Some y
is_last [] y = refl
is_last (z ∷ xs) y = is_last xs y

-- there is no element after the last
pub none_past : {X : Type 0} (xs : List (Option X)) (x : X) → slice_get xs (length xs) ≡ Some (Some x) → ⊥
none_past [] x e = absurd cc
none_past (z ∷ xs) x e = none_past xs x e

-- nor is there one past the last
pub none_from : {X : Type 0} (xs : List X) (n : ℕ) (x : X) → length xs ≤ n → slice_get xs n ≡ Some x → ⊥
none_from [] n x past e = absurd cc
none_from (z ∷ xs) zero x past e = absurd (omega (arith, past))
none_from (z ∷ xs) (suc n) x past e = none_from xs n x (omega (arith, past)) e

-- an element that is none is no other
pub none_there : {X : Type 0} (xs : List (Option X)) (n : ℕ) (d : Option X) (x : X) → is_none (slice_index_or xs n d) ≡ true
    → slice_get xs n ≡ Some (Some x) → ⊥
none_there [] n d x none e = absurd cc
none_there (None ∷ xs) zero d x none e = absurd cc
none_there (Some y ∷ xs) zero d x none e = absurd cc
none_there (z ∷ xs) (suc n) d x none e = none_there xs n d x none e

-- what a test says of an option that is not none
pub not_none : {X : Type 0} (o : Option X) (b : Bool) → is_some o ≡ not b → b ≡ false → is_none o ≡ false
not_none (Some x) b is said = refl
not_none None false is said = absurd cc
not_none None true is said = absurd cc

-- an element that is not none is another
some_there : {X : Type 0} (xs : List (Option X)) (n : ℕ) (d : Option X) → n < length xs → is_none (slice_index_or xs n d) ≡ false
    → (x : X) × (slice_get xs n ≡ Some (Some x))
some_there [] n d within some = absurd (omega (arith, within))
some_there (None ∷ xs) zero d within some = absurd cc
some_there (Some y ∷ xs) zero d within some = (y, refl)
some_there (z ∷ xs) (suc n) d within some = some_there xs n d (omega (arith, within)) some

-- then each below the next number is another
pub some_below : {X : Type 0} (xs : List (Option X)) (n : ℕ) (d : Option X) → n < length xs → is_none (slice_index_or xs n d) ≡ false
    → ((m : ℕ) → m < n → (x : X) × (slice_get xs m ≡ Some (Some x))) → (m : ℕ) → m < n + 1 → (x : X) × (slice_get xs m ≡ Some (Some x))
some_below {X} xs n d within some below =
    below_more (λ m. (x : X) × (slice_get xs m ≡ Some (Some x))) n below (some_there xs n d within some)

-- the lowest free number, under another name
pub is_lowest : (images : List (Option Parts)) (k n : ℕ) → ((image : Parts) → slice_get images k ≡ Some (Some image) → ⊥)
    → ((m : ℕ) → m < k → (image : Parts) × (slice_get images m ≡ Some (Some image))) → n ≡ k → IsLowestFree images n
is_lowest images k n free lower is = subst (λ n. IsLowestFree images n) (sym is) (record { free = free; lower = lower })

-- where one is set that is not this, this stays
pub set_stays : {X : Type 0} (xs : List X) (n : ℕ) (y : X) (m : ℕ) (x : X) → (slice_get xs n ≡ Some x → ⊥) → slice_get xs m ≡ Some x
    → slice_get (slice_set xs n y) m ≡ Some x
set_stays [] n y m x other e = absurd cc
set_stays (z ∷ xs) zero y zero x other e = absurd (other e)
set_stays (z ∷ xs) zero y (suc m) x other e = e
set_stays (z ∷ xs) (suc n) y zero x other e = e
set_stays (z ∷ xs) (suc n) y (suc m) x other e = set_stays xs n y m x other e

-- and so does each at another place
pub others_stay : {X : Type 0} (xs : List X) (n : ℕ) (y : X) (m : ℕ) (x : X) → (m ≡ n → ⊥) → slice_get xs m ≡ Some x
    → slice_get (slice_set xs n y) m ≡ Some x
others_stay [] n y m x other e = absurd cc
others_stay (z ∷ xs) zero y zero x other e = absurd (other refl)
others_stay (z ∷ xs) zero y (suc m) x other e = e
others_stay (z ∷ xs) (suc n) y zero x other e = e
others_stay (z ∷ xs) (suc n) y (suc m) x other e = others_stay xs n y m x (λ same. other (ap suc same)) e

-- what is set is there
pub set_is : {X : Type 0} (xs : List X) (n : ℕ) (y : X) → n < length xs → slice_get (slice_set xs n y) n ≡ Some y
set_is [] n y within = absurd (omega arith)
set_is (z ∷ xs) zero y within = refl
set_is (z ∷ xs) (suc n) y within = set_is xs n y (omega (arith, within))
