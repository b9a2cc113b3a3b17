-- What `check` knows on its way.
use Rattle.std.specs.Prelude.{◌≡◌, ℕ, ◌+◌, ◌*◌, ◌/◌, ◌%◌, ◌<◌, ◌≤◌, Bool, true, false, List, length, drop, slice_index_or}
use Rattle.std.specs.List.{count_by}
use Rattle.geos_terms.specs.Block.{entry, entries, table_end}
use Rattle.geos_terms.specs.Bytes.{word}
use Rattle.geos_terms.specs.Heap.{Piece, Tiles, HasChunk, free_bytes, IsOffset, IsTiledBy}

-- these pieces tile the rest of a block, from `at` on: the first free one is at `free`, and
-- `sum` bytes were free before
pub record TilesRest (block : List ℕ) (at free sum : ℕ) (pieces : List Piece) : Type 0 where
  pub tiles : Tiles block at free pieces (length block) 0
  pub all : (i : ℕ) → i < entries block → IsOffset (entry block i) → at ≤ entry block i → HasChunk i pieces
  pub total : sum + free_bytes pieces ≡ word block 14

-- some pieces do
abbrev pub CanTile : List ℕ → ℕ → ℕ → ℕ → Type 0
CanTile block at free sum = (pieces : List Piece) × TilesRest block at free sum pieces

-- how many places are marked from this one on
unfoldable pub marks_from : List Bool → ℕ → ℕ
marks_from starts k = count_by (λ x. x) (drop k starts)

-- the rest can be tiled, and by as many chunks as are left
abbrev pub CanGoOn : List ℕ → List Bool → ℕ → ℕ → ℕ → ℕ → Type 0
CanGoOn block starts at free sum left = CanTile block at free sum × (marks_from starts (at / 4) ≡ left)

-- a step over a piece that ends here and has so many chunks: if no mark lies within
-- the piece, the rest can be tiled after the step exactly if it could be tiled before
pub record Goes (block : List ℕ) (starts : List Bool) (at free sum end chunks free_then sum_then : ℕ) : Type 0 where
  pub forward : CanTile block at free sum → CanTile block end free_then sum_then × (marks_from starts (at / 4) ≡ chunks + marks_from starts (end / 4))
  pub back : CanTile block end free_then sum_then → marks_from starts (at / 4) ≡ chunks + marks_from starts (end / 4) → CanTile block at free sum
  pub marks : chunks + marks_from starts (end / 4) ≤ marks_from starts (at / 4)
  pub some : at < end
  pub fours : end % 4 ≡ 0
  pub fits : end ≤ length block
  pub small : sum_then + at ≤ sum + end

-- some pieces tile the block
abbrev pub IsTiled : List ℕ → Type 0
IsTiled block = (pieces : List Piece) × IsTiledBy block pieces

-- the first n entries are marked, each at an offset of its own: mark k is for a chunk whose
-- first byte is at 4 * k + 2
pub record Marks (block : List ℕ) (n : ℕ) (starts : List Bool) : Type 0 where
  pub sound : (k : ℕ) → slice_index_or starts k false ≡ true → (i : ℕ) × (i < n) × IsOffset (entry block i) × (entry block i ≡ 4 * k + 2)
  pub marked : (i : ℕ) → i < n → IsOffset (entry block i) → slice_index_or starts (entry block i / 4) false ≡ true
  pub place : (i : ℕ) → i < n → IsOffset (entry block i) → (table_end block + 2 ≤ entry block i) × (entry block i % 4 ≡ 2)
      × (entry block i < length block)
  pub once : (i j : ℕ) → i < n → j < n → IsOffset (entry block i) → entry block i ≡ entry block j → i ≡ j
