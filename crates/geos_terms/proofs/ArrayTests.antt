-- Which refusals of the calls on arrays come.
use Rattle.std.proofs.Common.{◌≡◌, ◌≢◌, ℕ, ◌<◌, ◌≤◌, Bool, false, List, [], ◌∷◌, ◌++◌, Option, Some, None, length, unwrap_or, ap, sym, ◌∙◌, arith}
use Rattle.std.specs.Prelude.{is_none, nat_lt, not}
use Rattle.std.proofs.lemmas.Bool.{eq-eqb, ne_eqb, lt-leb, le-ltb}
use Rattle.geos_terms.specs.declared.refusal.Refusal.{Refusal}
use Rattle.geos_terms.specs.declared.refusal.Refusal.TheVariants.{BadChunk, BadArray, BadElement}
use Rattle.geos_terms.specs.Refusals.{first_refusal}
use Rattle.geos_terms.specs.Chunks.{chunk_of, bytes_of}
use Rattle.geos_terms.specs.Arrays.{Array, arr, empty}
use Rattle.geos_terms.specs.ArrayEdits.{array_of, count_of, no_array, no_element, is_past, is_fixed}

module _ (cs : List (Option (List ℕ))) (c : ℕ) (bytes : List ℕ) (a : Array) (there : chunk_of cs c ≡ Some bytes) (is : arr bytes ≡ Some a) where
  -- the array of a handle
  pub array-of : array_of cs c ≡ a
  array-of = ap (λ x. unwrap_or (arr (unwrap_or x [])) (empty 0)) there ∙ ap (λ x. unwrap_or x (empty 0)) is

  pub count-of : count_of cs c ≡ length a.elements
  count-of = ap (λ (x : Array). length x.elements) array-of

  -- a handle that has an array passes the first tests
  pub array-passes : (more : List (Bool × Refusal)) → first_refusal (no_array cs c ++ more) ≡ first_refusal more
  array-passes more =
      let known : is_none (chunk_of cs c) ≡ false = ap is_none there in
      let found : is_none (arr (bytes_of cs c)) ≡ false = ap (λ x. is_none (arr (unwrap_or x []))) there ∙ ap is_none is in
      ap (λ t. first_refusal ((t, BadChunk) ∷ (is_none (arr (bytes_of cs c)), BadArray) ∷ more)) known
      ∙ ap (λ t. first_refusal ((t, BadArray) ∷ more)) found

  -- an index below the count is that of an element, and no other
  pub element-passes : (i : ℕ) → i < length a.elements → first_refusal (no_element cs c i) ≡ None
  element-passes i h = array-passes (is_past cs c i ∷ []) ∙ ap (λ t. first_refusal ((t, BadElement) ∷ []))
      (lt-leb (count_of cs c) i (omega (arith, count-of, h)))

  -- where an element is put in, the count is an index too
  pub insert-passes : (i : ℕ) → i ≤ length a.elements → first_refusal (no_array cs c ++ ((nat_lt (count_of cs c) i, BadElement) ∷ [])) ≡ None
  insert-passes i h = array-passes ((nat_lt (count_of cs c) i, BadElement) ∷ [])
      ∙ ap (λ t. first_refusal ((t, BadElement) ∷ [])) (le-ltb (count_of cs c) i (omega (arith, count-of, h)))

  -- an element gets another size where sizes vary
  pub fixed-refused : (more : List (Bool × Refusal)) → a.element_size ≢ 0 → first_refusal (no_array cs c ++ (is_fixed cs c ∷ more)) ≡ Some BadArray
  fixed-refused more ne =
      let same : (array_of cs c).element_size ≡ a.element_size = ap (λ (x : Array). x.element_size) array-of in
      array-passes (is_fixed cs c ∷ more) ∙ ap (λ t. first_refusal ((not t, BadArray) ∷ more))
      (ne_eqb (array_of cs c).element_size 0 (λ e. ne (sym same ∙ e)))

  varying-passes : (more : List (Bool × Refusal)) → a.element_size ≡ 0 → first_refusal (no_array cs c ++ (is_fixed cs c ∷ more)) ≡ first_refusal more
  varying-passes more e =
      let same : (array_of cs c).element_size ≡ a.element_size = ap (λ (x : Array). x.element_size) array-of in
      array-passes (is_fixed cs c ∷ more) ∙ ap (λ t. first_refusal ((not t, BadArray) ∷ more)) (eq-eqb (array_of cs c).element_size 0 (same ∙ e))

  pub resize-passes : (i : ℕ) → a.element_size ≡ 0 → i < length a.elements
      → first_refusal (no_array cs c ++ (is_fixed cs c ∷ is_past cs c i ∷ [])) ≡ None
  resize-passes i e h = varying-passes (is_past cs c i ∷ []) e ∙ ap (λ t. first_refusal ((t, BadElement) ∷ []))
      (lt-leb (count_of cs c) i (omega (arith, count-of, h)))
