-- The chunks of a heap: one item per entry of its chunk handle table, the chunk's bytes where
-- the entry has a chunk.
use Rattle.std.specs.Prelude.{ℕ, zero, suc, ◌+◌, ◌-◌, ◌*◌, ◌/◌, ◌%◌, ◌==◌, ◌&&◌, nat_le, if◌then◌else◌, List, [], ◌∷◌, Option, Some, None, length, sum_by, slice_index_or, slice_set, replicate, ◌++◌, take, drop, unwrap_or}

-- the bytes that a chunk of n bytes takes in a block: a size word and its bytes, filled up to
-- fours; none for no byte
unfoldable pub cost : ℕ → ℕ
cost zero = 0
cost (suc n) = (suc n + 2 + 3) / 4 * 4

-- what an entry's chunk takes in a block
abbrev pub cost_of : Option (List ℕ) → ℕ
cost_of None = 0
cost_of (Some bytes) = cost (length bytes)

-- what header, table and chunks take in a block
abbrev pub used_bytes : List (Option (List ℕ)) → ℕ
used_bytes chunks = 16 + 2 * length chunks + sum_by cost_of chunks

-- the least multiple of 16 not below a number
abbrev pub sixteens : ℕ → ℕ
sixteens n = (n + 15) / 16 * 16

-- the least block size that has room for header, table and chunks
abbrev pub need : List (Option (List ℕ)) → ℕ
need chunks = sixteens (used_bytes chunks)

-- the handle of an entry: handles are even, from 16
abbrev pub handle_of : ℕ → ℕ
handle_of entry = 16 + 2 * entry

-- the entry of a handle
abbrev pub entry_of : ℕ → ℕ
entry_of c = (c - 16) / 2

-- the bytes of an entry's chunk
abbrev pub entry_bytes : List (Option (List ℕ)) → ℕ → List ℕ
entry_bytes chunks i = unwrap_or (slice_index_or chunks i None) []

-- the chunk of a handle
abbrev pub chunk_of : List (Option (List ℕ)) → ℕ → Option (List ℕ)
chunk_of chunks c = if nat_le 16 c && (c % 2 == 0) then slice_index_or chunks (entry_of c) None else None

-- the bytes of a handle's chunk
abbrev pub bytes_of : List (Option (List ℕ)) → ℕ → List ℕ
bytes_of chunks c = unwrap_or (chunk_of chunks c) []

-- the lowest entry that is not in use, or the number of entries where all are
abbrev pub lowest_entry : List (Option (List ℕ)) → ℕ
lowest_entry [] = 0
lowest_entry (None ∷ chunks) = 0
lowest_entry (Some bytes ∷ chunks) = suc (lowest_entry chunks)

-- with two more entries where all are in use
abbrev pub with_entry : List (Option (List ℕ)) → List (Option (List ℕ))
with_entry chunks = if lowest_entry chunks == length chunks then chunks ++ (None ∷ (None ∷ [])) else chunks

-- with a new chunk of n zero bytes, in the lowest entry that is not in use
abbrev pub with_new : List (Option (List ℕ)) → ℕ → List (Option (List ℕ))
with_new chunks n = slice_set (with_entry chunks) (lowest_entry chunks) (Some (replicate n 0))

-- the handle of that chunk
abbrev pub new_handle : List (Option (List ℕ)) → ℕ
new_handle chunks = handle_of (lowest_entry chunks)

-- with other bytes as the chunk of a handle
abbrev pub with_bytes : List (Option (List ℕ)) → ℕ → List ℕ → List (Option (List ℕ))
with_bytes chunks c bytes = slice_set chunks (entry_of c) (Some bytes)

-- without the chunk of a handle: its entry stays in the table
abbrev pub without : List (Option (List ℕ)) → ℕ → List (Option (List ℕ))
without chunks c = slice_set chunks (entry_of c) None

-- n bytes: the first bytes that fit, and zeros after them
abbrev pub resized : List ℕ → ℕ → List ℕ
resized bytes n = take n bytes ++ replicate (n - length bytes) 0

-- with n zero bytes at an offset
abbrev pub with_zeros : List ℕ → ℕ → ℕ → List ℕ
with_zeros bytes at n = take at bytes ++ (replicate n 0 ++ drop at bytes)

-- without the n bytes at an offset
abbrev pub without_part : List ℕ → ℕ → ℕ → List ℕ
without_part bytes at n = take at bytes ++ drop (at + n) bytes

-- with n bytes in the place of the part at an offset: its first ones that fit, and zeros
abbrev pub with_resized_part : List ℕ → ℕ → ℕ → ℕ → List ℕ
with_resized_part bytes at has n = take at bytes ++ (resized (take has (drop at bytes)) n ++ drop (at + has) bytes)

-- what `realloc` does: the chunk of a handle gets n bytes
abbrev pub with_resized : List (Option (List ℕ)) → ℕ → ℕ → List (Option (List ℕ))
with_resized chunks c n = with_bytes chunks c (resized (bytes_of chunks c) n)

-- what `insert` does: the chunk of a handle gets n zero bytes at an offset
abbrev pub with_inserted : List (Option (List ℕ)) → ℕ → ℕ → ℕ → List (Option (List ℕ))
with_inserted chunks c at n = with_bytes chunks c (with_zeros (bytes_of chunks c) at n)

-- what `delete` does: the chunk of a handle loses n bytes at an offset
abbrev pub with_deleted : List (Option (List ℕ)) → ℕ → ℕ → ℕ → List (Option (List ℕ))
with_deleted chunks c at n = with_bytes chunks c (without_part (bytes_of chunks c) at n)
