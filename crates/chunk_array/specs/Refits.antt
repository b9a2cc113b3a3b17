-- Bytes of an array in which an element was resized.
use Rattle.std.specs.Prelude.{◌≡◌, ℕ, ◌<◌, ◌≤◌, List, length, slice_index, Some}
use Rattle.geos_terms.specs.Chunks.{resized, with_resized_part}
use Rattle.geos_terms.specs.Arrays.{Array, arr, element_at, element, with_element_bytes}
use Rattle.geos_terms.specs.Heap.{most_block_bytes}
use Rattle.chunk_array.specs.declared.shape.ElementPlace.{ElementPlace}
use Rattle.chunk_array.specs.declared.shape.Shape.{Shape}

-- the bytes of an array with elements of varying size, of this
-- shape, after n bytes have replaced the bytes of one element
pub record HasRefit (bytes before : List ℕ) (a : Array) (shape : Shape) (place : ElementPlace) (n : ℕ) : Type 0 where
  pub is : arr before ≡ Some a
  pub small : (k : ℕ) → slice_index before k < 256
  pub count : length a.elements ≡ shape.count
  pub varying : a.element_size ≡ 0
  pub known : place.index < shape.count
  pub size : place.len ≡ length (element a place.index)
  pub made : bytes ≡ with_resized_part before (element_at a place.index) place.len n
  pub few : length bytes ≤ most_block_bytes

-- the bytes are those of some array after such a change
pub record IsRefitted (bytes : List ℕ) (shape : Shape) (place : ElementPlace) (n : ℕ) : Type 0 where
  pub before : List ℕ
  pub array : Array
  pub has_refit : HasRefit bytes before array shape place n

-- the array in which element i has n bytes: its first ones that fit, and zeros
abbrev pub with_refit : Array → ℕ → ℕ → Array
with_refit a i n = with_element_bytes a i (resized (element a i) n)
