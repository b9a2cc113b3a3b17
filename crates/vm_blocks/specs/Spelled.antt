-- What the bytes of blocks encode.
use Rattle.std.specs.Prelude.{ℕ, if◌then◌else◌, List, [], ◌∷◌, length, Option, Some, None}
use Rattle.geos_terms.specs.Block as block
use Rattle.geos_calls.specs.Blocks as model
use Rattle.geos_calls.specs.Given.{can_hold}
use Rattle.block_handles.specs.Store as store

-- the heap that bytes encode
abbrev pub heap_in : List ℕ → model.Heap
heap_in bytes = record { chunks = block.chunks bytes; size = length bytes }

-- the block that bytes encode, with this lock count
abbrev pub spelled : ℕ → List ℕ → model.Block
spelled locks bytes = record { locks = locks; heap = heap_in bytes }

-- the block that a slot encodes
abbrev pub block_in : Option store.Block → Option model.Block
block_in None = None
block_in (Some b) = Some (spelled b.locks b.bytes)

-- a heap of this size without a chunk
abbrev pub empty_heap : ℕ → model.Heap
empty_heap size = record { chunks = None ∷ None ∷ []; size = size }

-- what bytes encode, in a block of this size; an empty heap if the block cannot hold it
abbrev pub heap_read : ℕ → List ℕ → model.Heap
heap_read size bytes = if can_hold size (block.chunks bytes) then record { chunks = block.chunks bytes; size = size } else empty_heap size
