-- Heaps with all free bytes at the end, and the steps from one to the next.
use Rattle.std.specs.Prelude.{◌≡◌, ◌≢◌, ℕ, ◌+◌, ◌-◌, ◌%◌, ◌<◌, ◌≤◌, ◌⊎◌, List, length, slice_index}
use Rattle.lmem_raw.specs.Bytes.{part}
use Rattle.geos_terms.specs.Bytes.{word, IsShifted}
use Rattle.geos_terms.specs.Chunks.{cost, resized}
use Rattle.geos_terms.specs.Block.{entry, entries, table_end, first_free, total_free}
use Rattle.geos_terms.specs.Heap.{Piece, Tiles, HasChunk, IsOffset, AreUsed, IsHeader}
use Rattle.lmem_heap.specs.Moves.{entry_moved}

-- the free bytes begin at an offset: one free chunk, or none if no byte is free
pub record EndsFree (block : List ℕ) (at : ℕ) : Type 0 where
  pub none : total_free block ≡ 0 → first_free block ≡ 0
  pub some : 0 < total_free block → (first_free block ≡ at) × (word block at ≡ total_free block) × (word block (at + 2) ≡ 0)

-- a heap whose chunks are adjacent, with all free bytes after them
pub record IsPacked (block : List ℕ) : Type 0 where
  pub header : IsHeader block
  pub pre : List Piece
  pub at : ℕ
  pub used : AreUsed pre
  pub tiles : Tiles block (table_end block) 0 pre at 0
  pub room : at + total_free block ≡ length block
  pub fours : total_free block % 4 ≡ 0
  pub all : (i : ℕ) → i < entries block → IsOffset (entry block i) → HasChunk i pre
  pub ends : EndsFree block at

-- the offset at which the chunks of such a heap end
abbrev pub chunks_end : List ℕ → ℕ
chunks_end block = length block - total_free block

-- the bytes from an offset on are free, and the bytes before it are unchanged
pub record SetsTail (old new : List ℕ) (at : ℕ) : Type 0 where
  pub long : length new ≡ length old
  pub total : at + total_free new ≡ length new
  pub ends : EndsFree new at
  pub same : (k : ℕ) → k < at → (k < 12) ⊎ (16 ≤ k) → slice_index new k ≡ slice_index old k

-- the length of an entry's chunk
abbrev pub chunk_length : List ℕ → ℕ → ℕ
chunk_length block i = word block (entry block i - 2) - 2

-- the offset at which an entry's chunk ends
abbrev pub chunk_end : List ℕ → ℕ → ℕ
chunk_end block i = entry block i - 2 + cost (chunk_length block i)

-- the chunks after the chunk of entry i have moved to `to`, and
-- their entries with them; the bytes before that chunk are unchanged
pub record EditsChunk (old new : List ℕ) (i to : ℕ) : Type 0 where
  pub long : length new ≡ length old
  pub head : (k : ℕ) → k < 12 → slice_index new k ≡ slice_index old k
  pub others : (j : ℕ) → j < entries old → j ≢ i → entry new j ≡ entry_moved (chunk_end old i) (chunks_end old) to (entry old j)
  pub before : IsShifted old new 0 0 (table_end old) (entry old i - 2)
  pub moved : IsShifted old new (chunk_end old i) to (chunk_end old i) (chunks_end old)
  pub total : to + (chunks_end old - chunk_end old i) + total_free new ≡ length new
  pub ends : EndsFree new (to + (chunks_end old - chunk_end old i))

-- the chunk of entry i has n bytes at the same place: the first ones that fit, and zeros
pub record HasResized (old new : List ℕ) (i n : ℕ) : Type 0 where
  pub place : entry new i ≡ entry old i
  pub size : word new (entry old i - 2) ≡ n + 2
  pub bytes : part new (entry old i) n ≡ resized (part old (entry old i) (chunk_length old i)) n

-- the table has two more entries, and the chunks have moved up by 4
pub record GrowsTable (old new : List ℕ) : Type 0 where
  pub long : length new ≡ length old
  pub head : (k : ℕ) → k < 10 → slice_index new k ≡ slice_index old k
  pub count : entries new ≡ entries old + 2
  pub places : (i : ℕ) → i < entries old → entry new i ≡ entry_moved (table_end old) (chunks_end old) (table_end old + 4) (entry old i)
  pub fresh : (word new (table_end old) ≡ 0) × (word new (table_end old + 2) ≡ 0)
  pub moved : IsShifted old new (table_end old) (table_end old + 4) (table_end old) (chunks_end old)
  pub total : chunks_end old + 4 + total_free new ≡ length new
  pub ends : EndsFree new (chunks_end old + 4)
