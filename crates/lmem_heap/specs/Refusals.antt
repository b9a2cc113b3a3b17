-- When calls refuse.
use Rattle.std.specs.Prelude.{◌≡◌, ℕ, ◌+◌, ◌<◌, ◌≤◌, List, Option, None, length, IsSome}
use Rattle.geos_terms.specs.Chunks.{chunk_of, bytes_of, need, with_inserted, with_resized}
use Rattle.geos_terms.specs.Heap.{most_block_bytes}
use Rattle.lmem_heap.specs.declared.error.DeleteError.{DeleteError}
use Rattle.lmem_heap.specs.declared.error.DeleteError.TheVariants as deletes
use Rattle.lmem_heap.specs.declared.error.InsertError.{InsertError}
use Rattle.lmem_heap.specs.declared.error.InsertError.TheVariants as inserts
use Rattle.lmem_heap.specs.declared.error.ReallocError.{ReallocError}
use Rattle.lmem_heap.specs.declared.error.ReallocError.TheVariants as reallocs
use Rattle.lmem_heap.specs.declared.error.RoomError.{RoomError}
use Rattle.lmem_heap.specs.declared.error.RoomError.TheVariants.{TooBig, NeedMore}

-- a block of this size has no room if this size is needed: it needs exactly so much, or more than a block can have
abbrev pub IsRoomError : RoomError → ℕ → ℕ → Type 0
IsRoomError TooBig needed size = most_block_bytes < needed
IsRoomError (NeedMore k) needed size = (k ≡ needed) × (size < needed) × (needed ≤ most_block_bytes)

-- the error of `realloc`: no chunk has the handle; or, if one has, the block has no room for the chunk with n bytes
abbrev pub IsReallocError : ReallocError → List (Option (List ℕ)) → ℕ → ℕ → ℕ → Type 0
IsReallocError reallocs.BadChunk chunks size c n = chunk_of chunks c ≡ None
IsReallocError (reallocs.Room room) chunks size c n = IsSome (chunk_of chunks c) × IsRoomError room (need (with_resized chunks c n)) size

-- the error of `insert`, the first that applies: no chunk has the handle;
-- the offset is past its length; the block has no room for n more bytes
abbrev pub IsInsertError : InsertError → List (Option (List ℕ)) → ℕ → ℕ → ℕ → ℕ → Type 0
IsInsertError inserts.BadChunk chunks size c at n = chunk_of chunks c ≡ None
IsInsertError inserts.Range chunks size c at n = IsSome (chunk_of chunks c) × (length (bytes_of chunks c) < at)
IsInsertError (inserts.Room room) chunks size c at n =
    IsSome (chunk_of chunks c) × (at ≤ length (bytes_of chunks c)) × IsRoomError room (need (with_inserted chunks c at n)) size

-- the error of `delete`, the first that applies: no chunk has the handle; the bytes reach past its length
abbrev pub IsDeleteError : DeleteError → List (Option (List ℕ)) → ℕ → ℕ → ℕ → Type 0
IsDeleteError deletes.BadChunk chunks c at n = chunk_of chunks c ≡ None
IsDeleteError deletes.Range chunks c at n = IsSome (chunk_of chunks c) × (length (bytes_of chunks c) < at + n)
