-- Which bytes are a heap: header, table, chunks and free chunks that tile the block.
use Rattle.std.specs.Prelude.{◌≡◌, ◌≢◌, ℕ, ◌+◌, ◌%◌, ◌<◌, ◌≤◌, ◌⊎◌, Bool, ◌&&◌, nat_le, ◌==◌, List, [], ◌∷◌, length}
use Rattle.geos_terms.specs.Bytes.{word}
use Rattle.geos_terms.specs.Chunks.{cost}
use Rattle.geos_terms.specs.Block.{entries, entry, table_end, first_free, total_free}

-- a piece of the space after the table: the chunk of an entry with its number of bytes, or a free chunk with its
-- total number of bytes
pub data Piece : Type 0 where
  Used : ℕ → ℕ → Piece
  Free : ℕ → Piece

-- these pieces lie side by side from `at` to `end`. The first free piece is at `free`, and the last free one says
-- that the next is at `next`. A used piece begins with its size word. A free piece begins with its size and the
-- offset of the next free one, which does not touch it.
abbrev pub Tiles : List ℕ → ℕ → ℕ → List Piece → ℕ → ℕ → Type 0
Tiles block at free [] end next = (at ≡ end) × (free ≡ next)
Tiles block at free (Used i n ∷ rest) end next =
    (0 < n) × (i < entries block) × (entry block i ≡ at + 2) × (word block at ≡ n + 2) × Tiles block (at + cost n) free rest end next
Tiles block at free (Free s ∷ rest) end next =
    (0 < s) × (s % 4 ≡ 0) × (free ≡ at) × (word block at ≡ s) × (word block (at + 2) ≢ at + s)
    × Tiles block (at + s) (word block (at + 2)) rest end next

-- the chunk of an entry is among the pieces
abbrev pub HasChunk : ℕ → List Piece → Type 0
HasChunk i [] = ⊥
HasChunk i (Used j n ∷ rest) = (i ≡ j) ⊎ HasChunk i rest
HasChunk i (Free s ∷ rest) = HasChunk i rest

-- the bytes of the free chunks among the pieces
abbrev pub free_bytes : List Piece → ℕ
free_bytes [] = 0
free_bytes (Used i n ∷ rest) = free_bytes rest
free_bytes (Free s ∷ rest) = s + free_bytes rest

-- the entry is the offset of a chunk: neither 0 nor 0xFFFF
abbrev pub IsOffset : ℕ → Type 0
IsOffset e = (e ≢ 0) × (e ≢ 65535)

-- all these pieces are chunks
abbrev pub AreUsed : List Piece → Type 0
AreUsed [] = Unit {0}
AreUsed (Used i n ∷ rest) = AreUsed rest
AreUsed (Free s ∷ rest) = ⊥

-- the most bytes of a block
abbrev pub most_block_bytes : ℕ
most_block_bytes = 65520

-- a legal size of a block
abbrev pub IsBlockSize : ℕ → Type 0
IsBlockSize size = (64 ≤ size) × (size ≤ most_block_bytes) × (size % 16 ≡ 0)

-- the same, as a test that computes
abbrev pub is_block_size : ℕ → Bool
is_block_size size = nat_le 64 size && nat_le size most_block_bytes && (size % 16 == 0)

-- the header's fixed words, the block's size, and a table that fits
pub record IsHeader (block : List ℕ) : Type 0 where
  pub table : word block 2 ≡ 16
  pub flags : word block 4 ≡ 0
  pub kind : word block 6 ≡ 0
  pub size : word block 8 ≡ length block
  pub least : 64 ≤ length block
  pub most : length block ≤ most_block_bytes
  pub sixteens : length block % 16 ≡ 0
  pub pairs : entries block % 2 ≡ 0
  pub some : 2 ≤ entries block
  pub fits : table_end block ≤ length block

-- the pieces tile the space after the table, each chunk of the table is among them, and the header has the total size
-- of the free pieces
pub record IsTiledBy (block : List ℕ) (pieces : List Piece) : Type 0 where
  pub tiles : Tiles block (table_end block) (first_free block) pieces (length block) 0
  pub all : (i : ℕ) → i < entries block → IsOffset (entry block i) → HasChunk i pieces
  pub total : total_free block ≡ free_bytes pieces

-- the bytes of a block that holds a heap
abbrev pub IsHeap : List ℕ → Type 0
IsHeap block = IsHeader block × ((pieces : List Piece) × IsTiledBy block pieces)

-- at most one free chunk, at the block's end
abbrev pub IsCompact : List ℕ → Type 0
IsCompact block = (first_free block ≡ 0) ⊎ (first_free block + word block (first_free block) ≡ length block)
