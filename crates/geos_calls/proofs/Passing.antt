-- What is known where no refusal comes.
use Rattle.std.proofs.Common.{◌≡◌, Bool, true, false, if◌then◌else◌, List, [], ◌∷◌, ◌++◌, Option, Some, None, refl}
use Rattle.std.specs.Prelude.{is_none}
use Rattle.geos_terms.specs.Refusals.{first_refusal}
use Rattle.geos_terms.specs.declared.refusal.Refusal.{Refusal}

-- the first test fails, and of the others none comes
pub none-here : {R : Type 0} (test : Bool) (refusal : R) (rest : Option R) → (if test then Some refusal else rest) ≡ None
    → (test ≡ false) × (rest ≡ None)
none-here true refusal rest h = absurd (let x : Some refusal ≡ None = h in cc)
none-here false refusal rest h = (refl, h)

pub none-behind : {R : Type 0} (front back : List (Bool × R)) → first_refusal (front ++ back) ≡ None → first_refusal back ≡ None
none-behind [] back h = h
none-behind (test ∷ front) back h = none-behind front back (none-here test.0 test.1 (first_refusal (front ++ back)) h).1

pub none-before : (front back : List (Bool × Refusal)) → first_refusal (front ++ back) ≡ None → first_refusal front ≡ None
none-before [] back h = refl
none-before ((true, why) ∷ front) back h = absurd (let x : Some why ≡ None = h in cc)
none-before ((false, why) ∷ front) back h = none-before front back h

-- what is not none is something
pub some-known : {X : Type 0} (o : Option X) → is_none o ≡ false → (x : X) × (o ≡ Some x)
some-known None h = absurd (let x : true ≡ false = h in cc)
some-known (Some x) h = (x, refl)
