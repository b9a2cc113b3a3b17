-- What is read of an array's bytes.
use Rattle.std.specs.Prelude.{◌≡◌, ℕ, List, length, Some}
use Rattle.geos_terms.specs.Arrays.{Array, arr}
use Rattle.chunk_array.specs.declared.shape.Shape.{Shape}

-- the bytes encode an array of this count and this size of elements
pub record HasShape (bytes : List ℕ) (shape : Shape) : Type 0 where
  pub array : Array
  pub is : arr bytes ≡ Some array
  pub count : length array.elements ≡ shape.count
  pub size : array.element_size ≡ shape.element_size
