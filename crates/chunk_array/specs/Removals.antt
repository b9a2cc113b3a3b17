-- Bytes out of which an element is to go.
use Rattle.std.specs.Prelude.{◌≡◌, ℕ, ◌+◌, ◌-◌, ◌<◌, ◌≤◌, List, length, slice_index, Some}
use Rattle.geos_terms.specs.Block.{chunks}
use Rattle.geos_terms.specs.Chunks.{with_bytes, without_part}
use Rattle.geos_terms.specs.Arrays.{Array, arr, element_at, spelled, without_element}
use Rattle.geos_terms.specs.Heap.{most_block_bytes}
use Rattle.chunk_array.specs.declared.shape.ElementPlace.{ElementPlace}
use Rattle.chunk_array.specs.declared.shape.Shape.{Shape}
use Rattle.chunk_array.specs.Insertions.{room_of}

-- the bytes of an array of this shape, and the place of one of its elements
pub record HasPart (bytes : List ℕ) (a : Array) (shape : Shape) (place : ElementPlace) : Type 0 where
  pub is : arr bytes ≡ Some a
  pub small : (k : ℕ) → slice_index bytes k < 256
  pub count : length a.elements ≡ shape.count
  pub size : a.element_size ≡ shape.element_size
  pub known : place.index < shape.count
  pub begins : place.begin ≡ element_at a place.index
  pub ends : place.begin + place.len ≡ element_at a (place.index + 1)
  pub few : length bytes ≤ most_block_bytes

-- the bytes are those of some array with such an element
pub record IsParted (bytes : List ℕ) (shape : Shape) (place : ElementPlace) : Type 0 where
  pub array : Array
  pub has : HasPart bytes array shape place

-- without the bytes of an element and its offset, the bytes encode the array without the element
pub record SpellsWithout (bytes : List ℕ) (a : Array) (shape : Shape) (place : ElementPlace) : Type 0 where
  pub rest : (room : ℕ) → room ≡ room_of shape.element_size place.len
      → without_part bytes (place.begin + place.len - room) room ≡ spelled (without_element a place.index)

-- a chunk now has bytes that encode the array without the element, with the same length as before
pub record Excludes (old new : List ℕ) (c : ℕ) (was : List ℕ) (a : Array) (shape : Shape) (place : ElementPlace) : Type 0 where
  pub bytes : List ℕ
  pub long : length bytes ≡ length was
  pub chunks : chunks new ≡ with_bytes (chunks old) c bytes
  pub spells : SpellsWithout bytes a shape place
