-- Arrays that calls find.
use Rattle.std.specs.Prelude.{◌≡◌, ℕ, ◌+◌, ◌<◌, ◌≤◌, List, length, slice_index, Some}
use Rattle.lmem_raw.specs.Bytes.{part}
use Rattle.geos_terms.specs.Block.{chunks, IsPlaced}
use Rattle.geos_terms.specs.Chunks.{chunk_of}
use Rattle.chunk_array.specs.declared.look.Found.{Found}
use Rattle.chunk_array.specs.Shapes.{HasShape}

-- the chunk's bytes lie at this place, and encode an array of this shape
pub record IsFound (block : List ℕ) (c : ℕ) (found : Found) : Type 0 where
  pub place : IsPlaced block c found.at found.len
  pub within : found.at + found.len ≤ length block
  pub bytes : chunk_of (chunks block) c ≡ Some (part block found.at found.len)
  pub shape : HasShape (part block found.at found.len) found.shape
  pub least : 8 ≤ found.len
  pub small : (k : ℕ) → slice_index (part block found.at found.len) k < 256

-- and it has an element of this index
pub record HasIndex (block : List ℕ) (c i : ℕ) (found : Found) : Type 0 where
  pub is : IsFound block c found
  pub known : i < found.shape.count
