-- What the bytes of a block encode.
use Rattle.std.specs.Prelude.{◌≡◌, ℕ, ◌+◌, ◌-◌, ◌*◌, ◌%◌, ◌==◌, ◌&&◌, nat_lt, nat_le, if◌then◌else◌, List, Option, Some, None, map}
use Rattle.std.specs.List.{range_with_len}
use Rattle.std.specs.Option.{option_map}
use Rattle.lmem_raw.specs.Bytes.{part}
use Rattle.geos_terms.specs.Bytes.{word}
use Rattle.geos_terms.specs.Chunks.{entry_of}

-- the block's handle
abbrev pub handle_word : List ℕ → ℕ
handle_word block = word block 0

-- the number of entries of the chunk handle table
abbrev pub entries : List ℕ → ℕ
entries block = word block 10

-- the first free chunk, or 0 where there is none
abbrev pub first_free : List ℕ → ℕ
first_free block = word block 12

-- the bytes that the header counts as free
abbrev pub total_free : List ℕ → ℕ
total_free block = word block 14

-- an entry of the table, which begins at 16
abbrev pub entry : List ℕ → ℕ → ℕ
entry block i = word block (16 + 2 * i)

-- the offset of an entry
abbrev pub entry_offset : ℕ → ℕ
entry_offset i = 16 + 2 * i

-- the offset of the end of the table
abbrev pub table_end : List ℕ → ℕ
table_end block = 16 + 2 * entries block

-- the offset of a chunk's bytes, and their number
pub record Place : Type 0 where
  pub at : ℕ
  pub len : ℕ

-- the place of an entry's chunk: for 0 there is no chunk, and 0xFFFF is a chunk of no byte. Any other entry is the
-- offset of the first byte, after the size word.
abbrev pub place_at : List ℕ → ℕ → Option Place
place_at block e = if e == 0 then None else (if e == 65535 then Some (record { at = 0; len = 0 }) else Some
    (record { at = e; len = word block (e - 2) - 2 }))

-- the bytes of a place
abbrev pub bytes_at : List ℕ → Place → List ℕ
bytes_at block place = part block place.at place.len

-- an entry's chunk
abbrev pub chunk_at : List ℕ → ℕ → Option (List ℕ)
chunk_at block e = option_map (bytes_at block) (place_at block e)

-- the chunks that a block encodes
abbrev pub chunks : List ℕ → List (Option (List ℕ))
chunks block = map (λ i. chunk_at block (entry block i)) (range_with_len 0 (entries block))

-- the place of the chunk with a handle
abbrev pub place_of : List ℕ → ℕ → Option Place
place_of block c = if nat_le 16 c && (c % 2 == 0) && nat_lt (entry_of c) (entries block) then place_at block (word block c) else None

-- the chunk with this handle is at this offset, and has `len` bytes
abbrev pub IsPlaced : List ℕ → ℕ → ℕ → ℕ → Type 0
IsPlaced block c at len = place_of block c ≡ Some (record { at = at; len = len })
