-- What a device that is not honest may do: when a call begins, a block of the VM file that is neither marked nor
-- locked may have any legal chunks.
use Rattle.std.specs.Prelude.{ℕ, ◌%◌, Bool, true, ◌&&◌, not, nat_lt, nat_le, ◌==◌, if◌then◌else◌, List, [], ◌∷◌, length, Option, Some, None}
use Rattle.std.specs.List.{list_all}
use Rattle.geos_terms.specs.Chunks.{need}
use Rattle.geos_calls.specs.Directories.{VmBlock, is_held}
use Rattle.geos_calls.specs.Memory.{Memory, with_cur}

-- a number is a byte
abbrev pub is_byte : ℕ → Bool
is_byte n = nat_lt n 256

-- an entry of a chunk handle table has a chunk of bytes, or none
abbrev pub is_chunk : Option (List ℕ) → Bool
is_chunk None = true
is_chunk (Some bytes) = list_all is_byte bytes

-- a block of this size has room for these chunks: they are bytes, with an even number of entries, at least two
abbrev pub can_hold : ℕ → List (Option (List ℕ)) → Bool
can_hold size chunks = list_all is_chunk chunks && (length chunks % 2 == 0) && nat_le 2 (length chunks) && nat_le (need chunks) size

-- a listed block with these chunks, of the same size
abbrev pub refilled : VmBlock → List (Option (List ℕ)) → VmBlock
refilled listed chunks = record listed { block = record listed.block { heap = record listed.block.heap { chunks = chunks } } }

-- a listed block that is given these chunks: it has them afterwards if it is neither marked nor locked, and has room
-- for them
abbrev pub given_chunks : List (Option (List ℕ)) → VmBlock → VmBlock
given_chunks chunks listed = if not (is_held listed) && can_hold listed.block.heap.size chunks then refilled listed chunks else listed

-- an entry of the current directory, given chunks or nothing
abbrev pub given_entry : Option (List (Option (List ℕ))) → Option VmBlock → Option VmBlock
given_entry None entry = entry
given_entry (Some chunks) None = None
given_entry (Some chunks) (Some listed) = Some (given_chunks chunks listed)

-- the entries of the current directory, each with what the first list has for its handle; an element after the last
-- entry is ignored
abbrev pub given_entries : List (Option (List (Option (List ℕ)))) → List (Option VmBlock) → List (Option VmBlock)
given_entries [] entries = entries
given_entries (given ∷ rest) [] = []
given_entries (given ∷ rest) (entry ∷ entries) = given_entry given entry ∷ given_entries rest entries

-- memory with what a device returns
abbrev pub given_memory : List (Option (List (Option (List ℕ)))) → Memory → Memory
given_memory given memory = with_cur memory (record memory.file.cur { blocks = given_entries given memory.file.cur.blocks })
