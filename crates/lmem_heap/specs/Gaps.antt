-- Free chunks that move up past the chunks after them.
use Rattle.std.specs.Prelude.{◌≡◌, ◌≢◌, ℕ, ◌+◌, ◌-◌, ◌%◌, ◌<◌, ◌≤◌, ◌⊎◌, List, [], length, slice_index}
use Rattle.lmem_raw.specs.Bytes.{part, with_part}
use Rattle.geos_terms.specs.Bytes.{word, with_word, IsShifted}
use Rattle.geos_terms.specs.Block.{chunks, entry, entries, handle_word, table_end, first_free, total_free}
use Rattle.geos_terms.specs.Heap.{Piece, Tiles, HasChunk, IsHeap, IsOffset, AreUsed, free_bytes}
use Rattle.lmem_heap.specs.Moves.{entry_moved}
use Rattle.lmem_heap.specs.Slides.{AreInOrder, HasSlid, IsButForEntries}
use Rattle.lmem_heap.specs.declared.compact.Gap.{Gap}
use Rattle.lmem_heap.specs.declared.slides.Slide.{Slide}

-- the first gap of free bytes: chunks before it, chunks from its end
-- to `end`, and there more free bytes, or none at the block's end
pub record HasGap (block : List ℕ) (gap : Gap) : Type 0 where
  pub pre : List Piece
  pub mid : List Piece
  pub post : List Piece
  pub pre_used : AreUsed pre
  pub mid_used : AreUsed mid
  pub before : Tiles block (table_end block) gap.first pre gap.first gap.first
  pub size : (0 < gap.size) × (gap.size % 4 ≡ 0) × (gap.more % 4 ≡ 0)
  pub middle : Tiles block (gap.first + gap.size) 0 mid gap.end 0
  pub behind : Tiles block (gap.end + gap.more) gap.after post (length block) 0
  pub apart : gap.after ≢ gap.end + gap.more
  pub all : (i : ℕ) → i < entries block → IsOffset (entry block i) → HasChunk i pre ⊎ (HasChunk i mid ⊎ HasChunk i post)
  pub total : total_free block ≡ gap.size + (gap.more + free_bytes post)
  pub places : (16 ≤ gap.first) × (gap.first + gap.size ≤ gap.end) × (gap.end + gap.more ≤ length block)

-- the first gap, for any heap that differs from these bytes only in the entries of its table
pub record IsFirstGap (block : List ℕ) (gap : Gap) : Type 0 where
  pub has : (heap : List ℕ) → IsButForEntries block heap → HasGap heap gap
  pub first : gap.first ≡ first_free block
  pub size : gap.size ≡ word block gap.first
  pub inner : gap.first + gap.size < gap.end

-- the chunks after the gap have moved down to its start; one
-- free chunk follows them, with the free bytes of both places
pub record ClosesGap (old new : List ℕ) (gap : Gap) : Type 0 where
  pub long : length new ≡ length old
  pub head : (k : ℕ) → k < 12 → slice_index new k ≡ slice_index old k
  pub total : total_free new ≡ total_free old
  pub first : first_free new ≡ gap.end - gap.size
  pub places : (i : ℕ) → i < entries old → entry new i ≡ entry_moved (gap.first + gap.size) gap.end gap.first (entry old i)
  pub before : IsShifted old new 0 0 (table_end old) gap.first
  pub moved : IsShifted old new (gap.first + gap.size) gap.first (gap.first + gap.size) gap.end
  pub size : word new (gap.end - gap.size) ≡ gap.size + gap.more
  pub next : word new (gap.end - gap.size + 2) ≡ gap.after
  pub behind : IsShifted old new 0 0 (gap.end + gap.more) (length old)

-- the bytes with the words of the free chunk after the chunks that moved, and the header's word that names it
unfoldable pub closing_words : List ℕ → Gap → List ℕ
closing_words block gap = with_word (with_word (with_word block (gap.end - gap.size) (gap.size + gap.more)) (gap.end - gap.size + 2) gap.after) 12
    (gap.end - gap.size)

-- the bytes of the chunks after the gap have moved down to its start,
-- followed by the words of the free chunk; the table is unchanged
abbrev pub slid : List ℕ → Gap → List ℕ
slid block gap = closing_words (with_part block gap.first (part block (gap.first + gap.size) (gap.end - (gap.first + gap.size)))) gap

-- the move of the chunks after the gap to where it began
abbrev pub slide_of : Gap → Slide
slide_of gap = record { from = gap.first + gap.size; end = gap.end; to = gap.first }

-- a heap with the same chunks, whose first free chunk lies further up
pub record ClosesGaps (old new : List ℕ) : Type 0 where
  pub heap : IsHeap new
  pub chunks : chunks new ≡ chunks old
  pub handle : handle_word new ≡ handle_word old
  pub went : first_free old < first_free new
  pub within : first_free old < length old

-- these runs have moved; once the table is corrected, the heap has the same chunks as before
pub record SlidesGaps (old block : List ℕ) (slides : List Slide) : Type 0 where
  pub heap : List ℕ
  pub slid : HasSlid block heap slides
  pub chunks : chunks heap ≡ chunks old
  pub handle : handle_word heap ≡ handle_word old
  pub high : ℕ
  pub order : AreInOrder 0 slides high
  pub below : high ≤ first_free block + word block (first_free block)
  pub went : ((slides ≡ []) × (block ≡ old)) ⊎ ((0 < length slides) × (first_free old < first_free block))
