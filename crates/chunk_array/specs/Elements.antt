-- Where elements lie in a block.
use Rattle.std.specs.Prelude.{◌≡◌, ℕ, ◌+◌, ◌≤◌, List, length}
use Rattle.lmem_raw.specs.Bytes.{part}
use Rattle.geos_terms.specs.Block.{chunks, IsPlaced}
use Rattle.geos_terms.specs.Edits.{Part}
use Rattle.geos_terms.specs.ArrayEdits.{refer_element, element_of}

-- the element of this index
abbrev pub part_of : List ℕ → ℕ → ℕ → Part
part_of block c i = (refer_element c i 0 (chunks block)).answer

-- the element lies at this offset, within its chunk
pub record HasElement (block : List ℕ) (c i at len : ℕ) : Type 0 where
  pub begin : ℕ
  pub whole : ℕ
  pub chunk : IsPlaced block c begin whole
  pub inside : begin + whole ≤ length block
  pub place : at ≡ begin + (part_of block c i).start
  pub long : len ≡ (part_of block c i).len
  pub within : at + len ≤ begin + whole
  pub bytes : part block at len ≡ element_of (chunks block) c i
