-- What keys stand for in trees.
use Rattle.std.proofs.Common.{◌≡◌, ◌<◌, ◌%◌, ℕ, zero, suc, List, [], ◌∷◌, length, refl, sym, ap, ◌∙◌, arith, ⊎_elim}
use Rattle.std.specs.Prelude.{slice_get, slice_set, Option, Some, None, cond}
use Rattle.std.specs.List.{All}
use Rattle.std.specs.Map.{lookup}
use Rattle.std.specs.Option.{option_and_then}
use Rattle.std.specs.Ordering.{is_eq, nat_cmp}
use Rattle.std.specs.Cmp.{unsigned_tied}
use Rattle.std.specs.BTreeMap.{BTreeMap, is_at}
use Rattle.std.specs.BTreeMap as tree
use Rattle.std.proofs.lemmas.Bool.{cases_eq, ne_eqb}
use Rattle.std.proofs.lemmas.Option.{slice_get_cases, slice_get_within}
use Rattle.geos_source.specs.declared.names.TheConstants.{TREES}
use Rattle.geos_source.specs.Tables.{value_at}

-- an item that is set is at its place
slice_get-set_same : {A : Type 0} (xs : List A) (i : ℕ) (y : A) → i < length xs → slice_get (slice_set xs i y) i ≡ Some y
slice_get-set_same [] i y lt = absurd (omega (arith, lt))
slice_get-set_same (x ∷ xs) zero y lt = refl
slice_get-set_same (x ∷ xs) (suc i) y lt = slice_get-set_same xs i y (omega (arith, lt))

-- and leaves the other places as they were
slice_get-set_other : {A : Type 0} (xs : List A) (i j : ℕ) (y : A) → (j ≡ i → ⊥) → slice_get (slice_set xs i y) j ≡ slice_get xs j
slice_get-set_other [] i j y other = refl
slice_get-set_other (x ∷ xs) zero zero y other = absurd (other refl)
slice_get-set_other (x ∷ xs) zero (suc j) y other = refl
slice_get-set_other (x ∷ xs) (suc i) zero y other = refl
slice_get-set_other (x ∷ xs) (suc i) (suc j) y other = slice_get-set_other xs i j y (λ same. other (ap suc same))

-- what a key stands for, by what tree it has
pub value_at-by : (trees : List (BTreeMap ℕ ℕ)) (key : ℕ) (its : Option (BTreeMap ℕ ℕ)) → slice_get trees (key % TREES) ≡ its
    → value_at trees key ≡ option_and_then (λ (t : BTreeMap ℕ ℕ). tree.get nat_cmp t key) its
unfolding value_at
value_at-by trees key its is = ap (option_and_then (λ (t : BTreeMap ℕ ℕ). tree.get nat_cmp t key)) is

-- in trees with no keys no key stands for anything
pub value_at-none : (trees : List (BTreeMap ℕ ℕ)) → All (λ t. t.entries ≡ []) trees → (key : ℕ) → value_at trees key ≡ None
value_at-none trees empty key =
    ⊎_elim
    (λ inside. value_at-by trees key (Some inside.0) inside.2 ∙ ap (lookup (is_at (nat_cmp key)))
    (ap (λ (t : BTreeMap ℕ ℕ). t.entries) (sym inside.3) ∙ empty (key % TREES) inside.0 inside.1))
    (λ past. value_at-by trees key None past.1)
    (slice_get_cases trees (key % TREES)).1

-- where a key's tree has one more key, so have the trees
pub value_at-with : (trees : List (BTreeMap ℕ ℕ)) (old new : BTreeMap ℕ ℕ) (key value : ℕ) → slice_get trees (key % TREES) ≡ Some old
    → ((other : ℕ) → tree.get nat_cmp new other ≡ cond (is_eq (nat_cmp key other)) (Some value) (tree.get nat_cmp old other))
    → (other : ℕ) → value_at (slice_set trees (key % TREES) new) other ≡ cond (is_eq (nat_cmp key other)) (Some value) (value_at trees other)
value_at-with trees old new key value here one_more other =
    let next = slice_set trees (key % TREES) new in
    ⊎_elim
    (λ same.
    value_at-by next other (Some new) (ap (slice_get next) same ∙ slice_get-set_same trees (key % TREES) new
    (slice_get_within trees (key % TREES) old here))
    ∙ one_more other
    ∙ ap (cond (is_eq (nat_cmp key other)) (Some value)) (sym (value_at-by trees other (Some old) (ap (slice_get trees) same ∙ here))))
    (λ apart.
    value_at-by next other (slice_get trees (other % TREES)) (slice_get-set_other trees (key % TREES) (other % TREES) new apart)
    ∙ sym (value_at-by trees other (slice_get trees (other % TREES)) refl)
    ∙ ap (λ same. cond same (Some value) (value_at trees other))
    (sym (unsigned_tied key other ∙ ne_eqb _ _ (λ same. apart (ap (λ n. n % TREES) (sym same))))))
    (cases_eq (other % TREES) (key % TREES))
