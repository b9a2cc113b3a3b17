-- What becomes of the array in a chunk.
use Rattle.std.specs.Prelude.{◌≡◌, ◌≢◌, ℕ, List, length, Option, Some, None, All}
use Rattle.geos_terms.specs.Chunks.{bytes_of, resized}
use Rattle.geos_terms.specs.Refusals.{first_refusal}
use Rattle.geos_terms.specs.Edits.{Edit}
use Rattle.geos_terms.specs.Arrays.{Array, arr, element, empty, with_element, without_element, with_element_bytes}
use Rattle.geos_terms.specs.ArrayEdits.{create_array, append_element, insert_element, remove_element, clear_array, resize_element}

-- if an array has a fixed size of elements, each element has this size
abbrev pub IsSized : Array → Type 0
IsSized a = a.element_size ≢ 0 → All (λ x. length x ≡ a.element_size) a.elements

-- the bytes of a chunk encoded an array, and now they encode what a change makes of it
pub record ChangesArray (old new : List (Option (List ℕ))) (c : ℕ) (change : Array → Array) : Type 0 where
  pub before : Array
  pub was : arr (bytes_of old c) ≡ Some before
  pub is : arr (bytes_of new c) ≡ Some (change before)

-- an edit of chunks makes this change if it is not refused
abbrev pub EditsArray : (List (Option (List ℕ)) → Edit (Unit {0})) → ℕ → (Array → Array) → Type 0
EditsArray edit c change = (chunks : List (Option (List ℕ))) → first_refusal (edit chunks).refusals ≡ None
    → ChangesArray chunks (edit chunks).chunks c change

-- each edit of the model makes the change that its name says in the array that a chunk encodes
pub record EditsChangeArrays : Type 0 where
  pub by_create : (k : ℕ) (chunks : List (Option (List ℕ))) → let e = create_array k chunks in arr (bytes_of e.chunks e.answer) ≡ Some (empty k)
  pub by_append : (c n : ℕ) → EditsArray (append_element c n) c (λ a. with_element a (length a.elements) n)
  pub by_insert : (c i n : ℕ) → EditsArray (insert_element c i n) c (λ a. with_element a i n)
  pub by_remove : (c i : ℕ) → EditsArray (remove_element c i) c (λ a. without_element a i)
  pub by_clear : (c : ℕ) → EditsArray (clear_array c) c (λ a. empty a.element_size)
  pub by_resize : (c i n : ℕ) → EditsArray (resize_element c i n) c (λ a. with_element_bytes a i (resized (element a i) n))
