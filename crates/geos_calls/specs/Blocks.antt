-- Blocks of any owner: how often one is locked, and its contents.
use Rattle.std.specs.Prelude.{ℕ, max, List, [], ◌∷◌, Option, Some, None}
use Rattle.geos_terms.specs.Chunks.{need}

-- the contents of a block: its chunks, and its size in bytes, which only refusals depend on
pub record Heap : Type 0 where
  pub chunks : List (Option (List ℕ))
  pub size : ℕ

-- a block: how often it is locked, and its contents
pub record Block : Type 0 where
  pub locks : ℕ
  pub heap : Heap

-- how often a block is locked, or 0 if there is none
abbrev pub locks_in : Option Block → ℕ
locks_in None = 0
locks_in (Some block) = block.locks

-- the size of a block, or 0 if there is none
abbrev pub size_in : Option Block → ℕ
size_in None = 0
size_in (Some block) = block.heap.size

-- the chunks of a block, or none if there is no block
abbrev pub chunks_in : Option Block → List (Option (List ℕ))
chunks_in None = []
chunks_in (Some block) = block.heap.chunks

-- the contents of a new block: 64 bytes, two table entries, no chunk
abbrev pub new_heap : Heap
new_heap = record { chunks = None ∷ None ∷ []; size = 64 }

-- a block that is locked n times
abbrev pub locked_block : ℕ → Block → Block
locked_block n block = record block { locks = n }

-- a block with other chunks, which grows if it must
abbrev pub rechunked_block : List (Option (List ℕ)) → Block → Block
rechunked_block chunks block = record block { heap = record { chunks = chunks; size = max block.heap.size (need chunks) } }
