-- Reading that did not fail: what each of its steps gave.
use Rattle.std.proofs.Common.{◌≡◌, ℕ, Bool, true, false, cond, List, [], ◌∷◌, Option, Some, None, Result, Ok, Err, refl, subst}
use Rattle.std.specs.Prelude.{find}
use Rattle.geos_image.specs.Reading.{◌>>=◌, or_fault, guard}

abbrev done : {A : Type 0} → A → Result A ℕ
done x = Ok x

-- two values that were read are one
pub ok_is : {A : Type 0} (x y : A) → done x ≡ done y → x ≡ y
ok_is x y e = cc

-- if two steps succeed together, both the first one and the second one succeeded
pub after : {A B C : Type 0} (r : Result A ℕ) (f : A → Result B ℕ) (y : B) → (r >>= f) ≡ Ok y → ((x : A) → r ≡ Ok x → f x ≡ Ok y → C) → C
after (Ok x) f y e then = then x refl e
after (Err at) f y e then = absurd cc

-- the test of a guard that passed is true
pub guard_ok : (at : ℕ) (b : Bool) (u : Unit {0}) → guard at b ≡ Ok u → b ≡ true
guard_ok at true u e = refl
guard_ok at false u e = absurd cc

-- a value was there
pub or_fault_ok : {A : Type 0} (at : ℕ) (o : Option A) (x : A) → or_fault at o ≡ Ok x → o ≡ Some x
or_fault_ok at (Some y) x e = cc
or_fault_ok at None x e = absurd cc

-- a value was read under a test
pub cond_ok : {A : Type 0} (b : Bool) (at : ℕ) (x y : A) → cond b (Ok x) (Err at) ≡ Ok y → (b ≡ true) × (x ≡ y)
cond_ok true at x y e = (refl, ok_is x y e)
cond_ok false at x y e = absurd cc

first_passes : {X : Type 0} (test : X → Bool) (first x : X) (others : Option X) (b : Bool) → test first ≡ b
    → cond b (Some first) others ≡ Some x → (others ≡ Some x → test x ≡ true) → test x ≡ true
first_passes test first x others true e h next = let same : first ≡ x = cc in subst (λ y. test y ≡ true) same e
first_passes test first x others false e h next = next h

-- what is found passes the test
pub find_passes : {X : Type 0} (test : X → Bool) (xs : List X) (x : X) → find test xs ≡ Some x → test x ≡ true
find_passes test [] x h = absurd cc
find_passes test (first ∷ xs) x h = first_passes test first x (find test xs) (test first) refl h (find_passes test xs x)
