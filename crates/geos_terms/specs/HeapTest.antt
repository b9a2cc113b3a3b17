-- Whether bytes are a heap, as a test that computes.
use Rattle.std.specs.Prelude.{◌≡◌, ◌↔◌, ℕ, zero, suc, ◌+◌, ◌-◌, ◌%◌, Bool, true, false, ◌&&◌, ◌||◌, not, nat_lt, nat_le, ◌==◌, if◌then◌else◌, List, [], ◌∷◌, length, Option, Some, None}
use Rattle.geos_terms.specs.Bytes.{word}
use Rattle.geos_terms.specs.Block.{entries, entry, table_end, first_free, total_free}
use Rattle.geos_terms.specs.Chunks.{cost}
use Rattle.geos_terms.specs.Heap.{IsHeap, Piece, Used, Free, free_bytes, is_block_size}

-- the header's fixed words, the block's size, and a table that fits
abbrev pub is_header : List ℕ → Bool
is_header block =
    (word block 2 == 16) && (word block 4 == 0) && (word block 6 == 0) && (word block 8 == length block)
    && is_block_size (length block) && (entries block % 2 == 0) && nat_le 2 (entries block) && nat_le (table_end block) (length block)

-- the entry, of the first n, that holds this offset
abbrev pub entry_with : List ℕ → ℕ → ℕ → Option ℕ
entry_with block e zero = None
entry_with block e (suc n) = if entry block n == e then Some n else entry_with block e n

-- the piece at an offset: the chunk of an entry, or a free chunk if no entry has this offset
abbrev pub piece_at : List ℕ → ℕ → Option ℕ → Piece
piece_at block at (Some i) = Used i (word block at - 2)
piece_at block at None = Free (word block at)

-- the bytes that a piece takes
abbrev pub piece_size : Piece → ℕ
piece_size (Used i n) = cost n
piece_size (Free s) = s

-- up to n pieces, side by side from an offset on
abbrev pub pieces_from : ℕ → List ℕ → ℕ → List Piece
pieces_from zero block at = []
pieces_from (suc n) block at =
    let piece = piece_at block at (entry_with block (at + 2) (entries block)) in
    if at == length block then [] else piece ∷ pieces_from n block (at + piece_size piece)

-- these pieces tile the block from an offset to its end
abbrev pub are_tiles : List ℕ → ℕ → ℕ → List Piece → Bool
are_tiles block at free [] = (at == length block) && (free == 0)
are_tiles block at free (Used i n ∷ rest) =
    nat_lt 0 n && nat_lt i (entries block) && (entry block i == at + 2) && (word block at == n + 2) && are_tiles block (at + cost n) free rest
are_tiles block at free (Free s ∷ rest) =
    nat_lt 0 s && (s % 4 == 0) && (free == at) && (word block at == s)
    && not (word block (at + 2) == at + s) && are_tiles block (at + s) (word block (at + 2)) rest

-- the chunk of an entry is among the pieces
abbrev pub has_chunk : ℕ → List Piece → Bool
has_chunk i [] = false
has_chunk i (Used j n ∷ rest) = (i == j) || has_chunk i rest
has_chunk i (Free s ∷ rest) = has_chunk i rest

-- each of the first n entries that is an offset has its chunk among the pieces
abbrev pub have_chunks : ℕ → List ℕ → List Piece → Bool
have_chunks zero block pieces = true
have_chunks (suc n) block pieces = ((entry block n == 0) || (entry block n == 65535) || has_chunk n pieces) && have_chunks n block pieces

-- the bytes are a heap
unfoldable pub is_heap : List ℕ → Bool
is_heap block =
    let pieces = pieces_from (length block) block (table_end block) in
    is_header block && are_tiles block (table_end block) (first_free block) pieces
    && have_chunks (entries block) block pieces && (total_free block == free_bytes pieces)

-- the test says yes exactly of a heap
abbrev pub HeapTestIsExact : Type 0
HeapTestIsExact = (bytes : List ℕ) → (is_heap bytes ≡ true) ↔ IsHeap bytes
