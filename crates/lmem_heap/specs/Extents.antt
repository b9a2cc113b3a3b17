-- Where the chunk of an entry lies.
use Rattle.std.specs.Prelude.{◌≡◌, ℕ, ◌+◌, ◌<◌, ◌≤◌, List, length}
use Rattle.geos_terms.specs.Chunks.{cost}
use Rattle.geos_terms.specs.Block.{entry, entries, table_end}
use Rattle.geos_terms.specs.Heap.{most_block_bytes}
use Rattle.lmem_heap.specs.declared.extents.Extent.{Extent}
use Rattle.lmem_heap.specs.Packed.{chunk_end, chunk_length}

-- from its size word to the end of its padding
pub record IsExtent (block : List ℕ) (i : ℕ) (extent : Extent) : Type 0 where
  pub entry : entry block i ≡ extent.begin + 2
  pub len : extent.len ≡ chunk_length block i
  pub end : extent.end ≡ chunk_end block i
  pub low : table_end block ≤ extent.begin
  pub high : (extent.end ≤ length block) × (extent.end ≤ most_block_bytes)
  pub wide : (0 < extent.len) × (extent.begin + cost extent.len ≡ extent.end) × (extent.len + 2 ≤ cost extent.len)

-- the entry is in the table, and its chunk lies in the block, after the table
pub record HasExtent (block : List ℕ) (i : ℕ) : Type 0 where
  pub known : i < entries block
  pub extent : Extent
  pub is : IsExtent block i extent
