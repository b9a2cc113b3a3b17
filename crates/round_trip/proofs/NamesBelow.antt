-- Tables of the names of numbers, and names that are different.
use Rattle.std.proofs.Common.{◌≡◌, ◌∙◌, ◌<◌, ◌≤◌, ℕ, zero, suc, Bool, true, false, cond, ◌==◌, List, [], ◌∷◌, ◌++◌, drop, replicate, Option, Some, None, refl, sym, ap, arith}
use Rattle.std.specs.Prelude.{bytes_eq, decimal}
use Rattle.std.specs.List.{list_all}
use Rattle.std.specs.Char.{is_ascii_digit}
use Rattle.std.proofs.lemmas.Bool.{and_parts, eqb-true, eqb-false}
use Rattle.std.proofs.lemmas.Fmt.{decimal_injective}
use Rattle.std.proofs.lemmas.Slice.Eq.{bytes_eq-Decides}
use Rattle.geos_listing.specs.Instrs.{label_of as label_text}
use Rattle.geos_source.specs.Names.{Table, none_defined, with_name}
use Rattle.round_trip.proofs.NumbersAgain.{apart, decimal-digits}
use Rattle.round_trip.proofs.NamesAgain.{label_name}

false_unless : (b : Bool) → (b ≡ true → ⊥) → b ≡ false
false_unless true h = absurd (h refl)
false_unless false h = refl

-- the comparison of two different names is false
pub told_apart : (name other : List ℕ) → (name ≡ other → ⊥) → bytes_eq name other ≡ false
told_apart name other differ = false_unless (bytes_eq name other) (λ e. differ ((bytes_eq-Decides name other).0 e))

-- a name is itself
pub same_name : (name : List ℕ) → bytes_eq name name ≡ true
same_name name = (bytes_eq-Decides name name).1 refl

-- the comparison of two names is symmetric
pub apart-sym : (name other : List ℕ) → bytes_eq name other ≡ false → bytes_eq other name ≡ false
apart-sym name other e = told_apart other name (λ same. absurd (both (bytes_eq name other) e ((bytes_eq-Decides name other).1 (sym same))))
  where
    both : (b : Bool) → b ≡ false → b ≡ true → ⊥
    both true e f = absurd cc
    both false e f = absurd cc

-- the names of the numbers below n that pass a test, each of which stands for its number
abbrev pub table_below : (ℕ → List ℕ) → (ℕ → Bool) → ℕ → Table
table_below key is zero = none_defined
table_below key is (suc n) = cond (is n) (with_name (table_below key is n) (key n) n) (table_below key is n)

-- the names of the numbers below most are different
abbrev pub Apart : (ℕ → List ℕ) → ℕ → Type 0
Apart key most = (i j : ℕ) → i < most → j < most → (i ≡ j → ⊥) → bytes_eq (key i) (key j) ≡ false

other_name : (b : Bool) (table : Table) (name other : List ℕ) (value : ℕ) (found : Option ℕ) → bytes_eq name other ≡ false
    → table other ≡ found → cond b (with_name table name value) table other ≡ found
other_name true table name other value found e f = ap (λ c. cond c (Some value) (table other)) e ∙ f
other_name false table name other value found e f = f

-- a later number's name is not defined
pub unknown : (key : ℕ → List ℕ) (is : ℕ → Bool) (most n j : ℕ) → Apart key most → n ≤ j → j < most → table_below key is n (key j) ≡ None
unknown key is most zero j differ le lt = refl
unknown key is most (suc n) j differ le lt =
    other_name (is n) (table_below key is n) (key n) (key j) n None (differ n j (omega (arith, le, lt)) lt (λ same. omega (arith, same, le)))
    (unknown key is most n j differ (omega (arith, le)) lt)

-- what the names of n numbers say of one more, by whether it is the last
known_by : (key : ℕ → List ℕ) (is : ℕ → Bool) (most n j : ℕ) (same : Bool) → (n == j) ≡ same → Apart key most → j < suc n → suc n ≤ most → is j ≡ true
    → (j < n → table_below key is n (key j) ≡ Some j) → table_below key is (suc n) (key j) ≡ Some j
known_by key is most n j true e differ lt le passes before =
    let here : j ≡ n = sym (eqb-true n j e) in
    ap (λ k. table_below key is (suc n) (key k)) here
    ∙ ap (λ b. cond b (with_name (table_below key is n) (key n) n) (table_below key is n) (key n)) (ap is (sym here) ∙ passes)
    ∙ ap (λ b. cond b (Some n) (table_below key is n (key n))) (same_name (key n))
    ∙ ap (λ (k : ℕ). Some k) (sym here)
known_by key is most n j false e differ lt le passes before =
    let not_here : n ≡ j → ⊥ = eqb-false n j e in
    other_name (is n) (table_below key is n) (key n) (key j) n (Some j) (differ n j (omega (arith, le)) (omega (arith, lt, le)) not_here)
    (before (omega (arith, lt, not_here)))

-- an earlier number's name stands for it, if it passes
pub known : (key : ℕ → List ℕ) (is : ℕ → Bool) (most n j : ℕ) → Apart key most → j < n → n ≤ most → is j ≡ true
    → table_below key is n (key j) ≡ Some j
known key is most zero j differ lt le passes = absurd (omega (arith, lt))
known key is most (suc n) j differ lt le passes =
    known_by key is most n j (n == j) refl differ lt le passes (λ before. known key is most n j differ before (omega (arith, le)) passes)

-- ---- labels

-- the bytes before the first zero
abbrev unpadded : List ℕ → List ℕ
unpadded [] = []
unpadded (b ∷ bytes) = cond (b == 0) [] (b ∷ unpadded bytes)

unpadded-zeros : (n : ℕ) → unpadded (replicate n 0) ≡ []
unpadded-zeros zero = refl
unpadded-zeros (suc n) = refl

unpadded-digits : (word : List ℕ) (n : ℕ) → list_all is_ascii_digit word ≡ true → unpadded (word ++ replicate n 0) ≡ word
unpadded-digits [] n h = unpadded-zeros n
unpadded-digits (b ∷ word) n h =
    let p = and_parts (is_ascii_digit b) (list_all is_ascii_digit word) h in
    ap (λ c. cond c [] (b ∷ unpadded (word ++ replicate n 0))) (apart is_ascii_digit b 0 refl p.0)
    ∙ ap (λ (bytes : List ℕ). b ∷ bytes) (unpadded-digits word n p.1)

label-unpadded : (pc : ℕ) → pc < 4096 → unpadded (label_name pc) ≡ label_text pc
label-unpadded pc lt = ap (λ (bytes : List ℕ). 76 ∷ bytes) (unpadded-digits (decimal pc) _ (decimal-digits pc (omega (arith, lt))))

label-same : (i j : ℕ) → i < 4096 → j < 4096 → label_name i ≡ label_name j → i ≡ j
label-same i j lt below e =
    let texts : label_text i ≡ label_text j = sym (label-unpadded i lt) ∙ ap unpadded e ∙ label-unpadded j below in
    decimal_injective i j (omega (arith, lt)) (omega (arith, below)) (ap (drop 1) texts)

-- labels have different names
pub labels-apart : (most : ℕ) → most ≤ 4096 → Apart label_name most
labels-apart most short i j lt below differ = told_apart (label_name i) (label_name j)
    (λ e. differ (label-same i j (omega (arith, lt, short)) (omega (arith, below, short)) e))
