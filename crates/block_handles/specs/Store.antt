-- What callers see: blocks by their slots, and where each lies.
use Rattle.std.specs.Prelude.{ℕ, ◌+◌, List, [], length, Option, Some, None, slice_index_or}

-- a block: how often it is locked, and its bytes
pub record Block : Type 0 where
  pub locks : ℕ
  pub bytes : List ℕ

-- the length of the region, the limit on the bytes of all blocks together, and the highest
-- handle that a new block of global memory may get
pub record Lengths : Type 0 where
  pub region : ℕ
  pub most : ℕ
  pub handles : ℕ

-- no limits: blocks may have the whole region, and every handle
abbrev pub whole : ℕ → Lengths
whole n = record { region = n; most = n; handles = 1024 }

-- the block in each slot; the place of each block in the region, 0 without a block; the region's length and the limit
pub record Store : Type 0 where
  pub blocks : List (Option Block)
  pub places : List ℕ
  pub len : Lengths

-- the block in a slot
abbrev pub block_at : Store → ℕ → Option Block
block_at store slot = slice_index_or store.blocks slot None

-- a slot has a block
abbrev pub IsBlock : Option Block → Type 0
IsBlock (Some block) = Unit {0}
IsBlock None = ⊥

-- a slot is in use
abbrev pub IsThere : Store → ℕ → Type 0
IsThere store slot = IsBlock (block_at store slot)

-- the bytes of what a slot has
abbrev pub bytes_in : Option Block → List ℕ
bytes_in (Some block) = block.bytes
bytes_in None = []

-- a block's bytes, none if there is no block
abbrev pub bytes_of : Store → ℕ → List ℕ
bytes_of store slot = bytes_in (block_at store slot)

-- a block's size, 0 if there is no block
abbrev pub size_of : Store → ℕ → ℕ
size_of store slot = length (bytes_of store slot)

-- the lock count of what a slot has
abbrev pub locks_in : Option Block → ℕ
locks_in (Some block) = block.locks
locks_in None = 0

-- a block's lock count, 0 if there is no block
abbrev pub locks_of : Store → ℕ → ℕ
locks_of store slot = locks_in (block_at store slot)

-- the offset at which a block begins
abbrev pub place_of : Store → ℕ → ℕ
place_of store slot = slice_index_or store.places slot 0

-- the offset at which a block ends
abbrev pub end_of : Store → ℕ → ℕ
end_of store slot = place_of store slot + size_of store slot

-- how many slots there are
abbrev pub slot_count : Store → ℕ
slot_count store = length store.blocks

-- the region's length in bytes
abbrev pub region_len : Store → ℕ
region_len store = store.len.region

-- how many bytes all blocks may have together
abbrev pub most_of : Store → ℕ
most_of store = store.len.most

-- the highest handle that a new block of global memory may get
abbrev pub handles_of : Store → ℕ
handles_of store = store.len.handles
