-- Lists by handles, after an entry was written or all were changed.
use Rattle.std.proofs.Common.{◌≡◌, ◌⊎◌, ℕ, zero, suc, Bool, true, false, inl, inr, sym, ap, ◌∙◌, List, [], ◌∷◌, Option, Some, None, length, get_or, set, map, refl, length-set}
use Rattle.std.specs.Prelude.{nat_le, option_map, position, is_none, unwrap_or}
use Rattle.std.proofs.lemmas.List.Quantifiers.{position-Some}
use Rattle.geos_calls.specs.Handles.{at_handle, with_entry_at, lowest_of, up_to}

-- what holds of an entry holds after any entry was written with something of which it holds
set-kept : {X : Type 0} (P : X → Type 0) (xs : List X) (i k : ℕ) (x d : X) → P x → P (get_or xs k d) → P (get_or (set xs i x) k d)
set-kept P [] i k x d new old = old
set-kept P (y ∷ ys) zero zero x d new old = new
set-kept P (y ∷ ys) zero (suc k) x d new old = old
set-kept P (y ∷ ys) (suc i) zero x d new old = old
set-kept P (y ∷ ys) (suc i) (suc k) x d new old = set-kept P ys i k x d new old

pub entry-kept : {X : Type 0} (P : X → Type 0) (xs : List X) (h k : ℕ) (x d : X) → P x → P (at_handle d xs k)
    → P (at_handle d (with_entry_at xs h x) k)
entry-kept P xs zero k x d new old = old
entry-kept P xs (suc h) zero x d new old = old
entry-kept P xs (suc h) (suc k) x d new old = set-kept P xs h k x d new old

pub length-with_entry_at : {X : Type 0} (xs : List X) (h : ℕ) (x : X) → length (with_entry_at xs h x) ≡ length xs
length-with_entry_at xs zero x = refl
length-with_entry_at xs (suc h) x = length-set xs h x

-- a function of an entry is unchanged if the entry is replaced by one with the same value
set-told : {X Y : Type 0} (g : X → Y) (xs : List X) (i k : ℕ) (x d : X) → g x ≡ g (get_or xs i d) → g (get_or (set xs i x) k d) ≡ g (get_or xs k d)
set-told g [] i k x d e = refl
set-told g (y ∷ ys) zero zero x d e = e
set-told g (y ∷ ys) zero (suc k) x d e = refl
set-told g (y ∷ ys) (suc i) zero x d e = refl
set-told g (y ∷ ys) (suc i) (suc k) x d e = set-told g ys i k x d e

pub entry-told : {X Y : Type 0} (g : X → Y) (xs : List X) (h k : ℕ) (x d : X) → g x ≡ g (at_handle d xs h)
    → g (at_handle d (with_entry_at xs h x) k) ≡ g (at_handle d xs k)
entry-told g xs zero k x d e = refl
entry-told g xs (suc h) zero x d e = refl
entry-told g xs (suc h) (suc k) x d e = set-told g xs h k x d e

-- an entry of a list whose entries were all changed
get-each : {A B : Type 0} (f : A → B) (xs : List (Option A)) (k : ℕ) → get_or (map (option_map f) xs) k None ≡ option_map f (get_or xs k None)
get-each f [] k = refl
get-each f (x ∷ xs) zero = refl
get-each f (x ∷ xs) (suc k) = get-each f xs k

pub entry-each : {A B : Type 0} (f : A → B) (xs : List (Option A)) (h : ℕ)
    → at_handle None (map (option_map f) xs) h ≡ option_map f (at_handle None xs h)
entry-each f xs zero = refl
entry-each f xs (suc h) = get-each f xs h

pub none-is : {X : Type 0} (o : Option X) → is_none o ≡ true → o ≡ None
none-is None h = refl
none-is (Some x) h = absurd cc

-- nothing is listed under the lowest handle for which there is nothing, nor under 0
pub lowest-none : {X : Type 0} (xs : List (Option X)) → at_handle None xs (unwrap_or (lowest_of xs) 0) ≡ None
lowest-none xs = go (position is_none xs) refl
  where
    go : (o : Option ℕ) → position is_none xs ≡ o → at_handle None xs (unwrap_or (option_map suc o) 0) ≡ None
    go None p = refl
    go (Some k) p = none-is (get_or xs k None) (position-Some is_none xs k None p).1

-- a limit leaves a handle as it is, or leaves none
pub up_to-either : (limit : ℕ) (o : Option ℕ) → (up_to limit o ≡ o) ⊎ (up_to limit o ≡ None)
up_to-either limit None = inl refl
up_to-either limit (Some h) = go (nat_le h limit) refl
  where
    go : (b : Bool) → nat_le h limit ≡ b → (up_to limit (Some h) ≡ Some h) ⊎ (up_to limit (Some h) ≡ None)
    go true is = inl (rw is refl)
    go false is = inr (rw is refl)

-- a handle that the limit allows is the handle
pub allowed-some : (limit : ℕ) (o : Option ℕ) (h : ℕ) → up_to limit o ≡ Some h → o ≡ Some h
allowed-some limit o h e = elim (up_to-either limit o) [
  | inl same ↦ sym same ∙ e
  | inr none ↦ absurd (let never : None ≡ Some h = sym none ∙ e in cc)
]

-- the same of what is not none
pub allowed-is : (limit : ℕ) (o : Option ℕ) → is_none (up_to limit o) ≡ false → up_to limit o ≡ o
allowed-is limit o h = elim (up_to-either limit o) [
  | inl same ↦ same
  | inr none ↦ absurd (let never : true ≡ false = sym (ap is_none none) ∙ h in cc)
]

-- nothing is listed under the lowest handle that the limit allows
pub allowed-none : {X : Type 0} (limit : ℕ) (xs : List (Option X)) → at_handle None xs (unwrap_or (up_to limit (lowest_of xs)) 0) ≡ None
allowed-none limit xs = elim (up_to-either limit (lowest_of xs)) [
  | inl same ↦ ap (λ o. at_handle None xs (unwrap_or o 0)) same ∙ lowest-none xs
  | inr none ↦ ap (λ o. at_handle None xs (unwrap_or o 0)) none
]
