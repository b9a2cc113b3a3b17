-- Bytes that no piece has, and the free list that passes over them.
use Rattle.std.specs.Prelude.{◌≡◌, ◌≢◌, ℕ, ◌+◌, ◌-◌, ◌%◌, ◌<◌, ◌≤◌, ◌⊎◌, List, [], ◌∷◌, ◌++◌, length, replicate, slice_set, Some}
use Rattle.geos_terms.specs.Bytes.{word, IsShifted}
use Rattle.lmem_heap.specs.Changes.{entry_resized}
use Rattle.geos_terms.specs.Block.{chunks, entry, entries, handle_word, table_end, first_free, total_free}
use Rattle.geos_terms.specs.Heap.{Piece, Free, Tiles, HasChunk, IsOffset, AreUsed, IsHeader, IsHeap, free_bytes}

-- a link that is the header's word: no piece lies before it
pub record IsFirstLink (block : List ℕ) (link upto : ℕ) (before : List Piece) : Type 0 where
  pub is : link ≡ 12
  pub none : before ≡ []
  pub start : upto ≡ table_end block

-- a link that is the next word of a free chunk, the last one of these pieces
pub record IsNextLink (block : List ℕ) (link upto : ℕ) (before : List Piece) : Type 0 where
  pub pre : List Piece
  pub size : ℕ
  pub is : before ≡ pre ++ (Free size ∷ [])
  pub some : 0 < size
  pub fours : size % 4 ≡ 0
  pub front : Tiles block (table_end block) (first_free block) pre (link - 2) (link - 2)
  pub low : table_end block + 2 ≤ link
  pub says : word block (link - 2) ≡ size
  pub apart : word block link ≢ upto
  pub ends : upto ≡ link - 2 + size

-- the word that names the first free chunk after these pieces, which end at `upto`
abbrev pub IsLink : List ℕ → ℕ → ℕ → List Piece → Type 0
IsLink block link upto before = IsFirstLink block link upto before ⊎ IsNextLink block link upto before

-- a heap except for the bytes from `at` to `end`, which belong to no piece; the link lies before them
pub record IsOpen (block : List ℕ) (link at end : ℕ) : Type 0 where
  pub header : IsHeader block
  pub before : List Piece
  pub upto : ℕ
  pub ahead : List Piece
  pub next : ℕ
  pub behind : List Piece
  pub linked : IsLink block link upto before
  pub tiles_ahead : Tiles block upto (word block link) ahead at next
  pub tiles_behind : Tiles block end next behind (length block) 0
  pub order : at ≤ end
  pub fours : at % 4 ≡ 0
  pub all : (i : ℕ) → i < entries block → IsOffset (entry block i) → HasChunk i before ⊎ (HasChunk i ahead ⊎ HasChunk i behind)
  pub total : total_free block ≡ free_bytes before + (free_bytes ahead + free_bytes behind)

-- no free chunk lies between the link and the bytes without a piece
pub record IsBeside (block : List ℕ) (link at end : ℕ) : Type 0 where
  pub is : IsOpen block link at end
  pub used : AreUsed is.ahead

-- an empty hole before a free chunk of at least this size
pub record FitsBehind (block : List ℕ) (link at end size : ℕ) : Type 0 where
  pub beside : IsBeside block link at end
  pub empty : at ≡ end
  pub next : word block link ≡ end
  pub room : size ≤ word block end

-- there is no free chunk, or the first one is smaller than that
abbrev pub FirstIsSmaller : List ℕ → ℕ → Type 0
FirstIsSmaller block size = (first_free block ≡ 0) ⊎ (word block (first_free block) < size)

-- the hole reaches up to another offset now, in a block with the same chunks
pub record Widens (old new : List ℕ) (link at end to : ℕ) : Type 0 where
  pub beside : IsBeside new link at to
  pub chunks : chunks new ≡ chunks old
  pub handle : handle_word new ≡ handle_word old
  pub count : entries new ≡ entries old
  pub each : (j : ℕ) → j < entries old → entry new j ≡ entry old j
  pub bytes : IsShifted old new 0 0 at end

-- the hole's bytes are free, in a heap with the same chunks
pub record GivesBack (old new : List ℕ) : Type 0 where
  pub heap : IsHeap new
  pub chunks : chunks new ≡ chunks old
  pub handle : handle_word new ≡ handle_word old

-- the entry has a chunk of n zeros now
pub record PlacesChunk (old new : List ℕ) (i n : ℕ) : Type 0 where
  pub heap : IsHeap new
  pub chunks : chunks new ≡ slice_set (chunks old) i (Some (replicate n 0))
  pub handle : handle_word new ≡ handle_word old

-- the hole has at least this size, in a block with the same chunks
pub record MakesRoom (old new : List ℕ) (end size link at to : ℕ) : Type 0 where
  pub beside : IsBeside new link at to
  pub room : at + size ≤ to
  pub fours : to % 4 ≡ 0
  pub chunks : chunks new ≡ chunks old
  pub handle : handle_word new ≡ handle_word old
  pub count : entries new ≡ entries old
  pub each : (j : ℕ) → j < entries old → entry new j ≡ entry old j
  pub bytes : IsShifted old new 0 0 at end

-- the chunk of an entry has n bytes now
pub record ResizesChunk (old new : List ℕ) (i n : ℕ) : Type 0 where
  pub heap : IsHeap new
  pub chunks : chunks new ≡ entry_resized (chunks old) i n
  pub handle : handle_word new ≡ handle_word old
