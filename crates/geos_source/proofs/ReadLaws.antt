-- What was read, and the tests that it passed.
use Rattle.std.proofs.Common.{◌≡◌, ℕ, Bool, true, false, cond, List, [], ◌∷◌, Option, Some, None, Result, Ok, Err, slice_set, refl}
use Rattle.std.specs.List.{list_all}
use Rattle.std.proofs.lemmas.Bool.{and_parts, and_from}
use Rattle.geos_source.specs.declared.fault.Why.{Why}
use Rattle.geos_source.specs.Operands.{unless_faulty}

abbrev done : {A : Type 0} → A → Result A Why
done x = Ok x

-- two values that were read are one
pub ok_is : {A : Type 0} (x y : A) → done x ≡ done y → x ≡ y
ok_is x y e = cc

-- a value is there under a test
pub some_if : {A : Type 0} (b : Bool) (x y : A) → cond b (Some x) None ≡ Some y → (b ≡ true) × (x ≡ y)
some_if true x y e = let same : x ≡ y = cc in (refl, same)
some_if false x y e = absurd cc

pub ok_if : {A E : Type 0} (b : Bool) (x y : A) (error : E) → cond b (Ok x) (Err error) ≡ Ok y → (b ≡ true) × (x ≡ y)
ok_if true x y error e = let same : x ≡ y = cc in (refl, same)
ok_if false x y error e = absurd cc

-- a value is read where its line has no fault
pub unless_faulty_is : {A : Type 0} (x y : A) (fault : Option Why) → unless_faulty x fault ≡ Ok y → (fault ≡ None) × (x ≡ y)
unless_faulty_is x y None e = (refl, ok_is x y e)
unless_faulty_is x y (Some why) e = absurd cc

-- one element is replaced by another that passes the test
pub list_all-set : {A : Type 0} (test : A → Bool) (xs : List A) (k : ℕ) (x : A) → list_all test xs ≡ true → test x ≡ true
    → list_all test (slice_set xs k x) ≡ true
list_all-set test [] k x h passes = refl
list_all-set test (y ∷ xs) ℕ.zero x h passes = and_from (test x) (list_all test xs) passes ((and_parts (test y) (list_all test xs) h).1)
list_all-set test (y ∷ xs) (ℕ.suc k) x h passes =
    let parts = and_parts (test y) (list_all test xs) h in
    and_from (test y) (list_all test (slice_set xs k x)) parts.0 (list_all-set test xs k x parts.1 passes)
