-- Bytes written within a chunk.
use Rattle.std.specs.Prelude.{◌≡◌, ℕ, ◌+◌, ◌≤◌, List, Some, length}
use Rattle.lmem_raw.specs.Bytes.{with_part}
use Rattle.geos_terms.specs.Block.{chunks, handle_word, place_of, bytes_at, Place}
use Rattle.geos_terms.specs.Chunks.{with_bytes}
use Rattle.geos_terms.specs.Heap.{IsHeap}

-- bytes written at an offset of a chunk's place change only the byte list of this chunk
pub record ChangesChunk (old new : List ℕ) (c : ℕ) (place : Place) (at : ℕ) (ws : List ℕ) : Type 0 where
  pub heap : IsHeap new
  pub chunks : chunks new ≡ with_bytes (chunks old) c (with_part (bytes_at old place) at ws)
  pub places : (d : ℕ) → place_of new d ≡ place_of old d
  pub handle : handle_word new ≡ handle_word old

-- bytes that are written within the place of a chunk change only the byte list of this chunk: every place stays, and
-- the block is still a heap
abbrev pub WritesStayInTheirChunk : Type 0
WritesStayInTheirChunk =
    (block : List ℕ) (c : ℕ) (place : Place) (at : ℕ) (ws : List ℕ) →
    IsHeap block → place_of block c ≡ Some place → at + length ws ≤ place.len → ChangesChunk block (with_part block (place.at + at) ws) c place at ws
