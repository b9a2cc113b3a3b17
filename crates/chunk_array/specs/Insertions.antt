-- Bytes of an array with room for a new element.
use Rattle.std.specs.Prelude.{◌≡◌, ℕ, ◌+◌, ◌<◌, ◌≤◌, ◌==◌, if◌then◌else◌, List, length, slice_index, Some}
use Rattle.geos_terms.specs.Chunks.{with_zeros}
use Rattle.geos_terms.specs.Arrays.{Array, arr, element_at}
use Rattle.geos_terms.specs.Heap.{most_block_bytes}
use Rattle.chunk_array.specs.declared.shape.ElementPlace.{ElementPlace}
use Rattle.chunk_array.specs.declared.shape.Shape.{Shape}

-- the bytes that a new element needs, including its offset if sizes vary
abbrev pub room_of : ℕ → ℕ → ℕ
room_of element_size n = if element_size == 0 then n + 2 else element_size

-- the bytes of an array of this shape, with the room for a new element at its place
pub record HasRoom (bytes before : List ℕ) (a : Array) (shape : Shape) (place : ElementPlace) : Type 0 where
  pub is : arr before ≡ Some a
  pub small : (k : ℕ) → slice_index before k < 256
  pub count : length a.elements ≡ shape.count
  pub size : a.element_size ≡ shape.element_size
  pub known : place.index ≤ shape.count
  pub begins : place.begin ≡ element_at a place.index
  pub made : bytes ≡ with_zeros before place.begin (room_of shape.element_size place.len)
  pub few : length bytes ≤ most_block_bytes

-- the bytes are those of some array with such room
pub record IsRoomy (bytes : List ℕ) (shape : Shape) (place : ElementPlace) : Type 0 where
  pub before : List ℕ
  pub array : Array
  pub has : HasRoom bytes before array shape place
