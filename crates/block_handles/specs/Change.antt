-- How calls change a store.
use Rattle.std.specs.Prelude.{◌≡◌, ◌≢◌, ℕ, zero, suc, ◌+◌, ◌-◌, ◌<◌, List, [], ◌∷◌, ◌++◌, drop, replicate, Option, Some, None, slice_set}
use Rattle.lmem_raw.specs.Bytes.{with_part}
use Rattle.block_handles.specs.declared.arena.Limits.{Limits}
use Rattle.block_handles.specs.Store.{Block, Store, bytes_of, size_of, locks_of, place_of}

-- the store with this block in a slot, or none, lying at this place
abbrev pub with_block : Store → ℕ → Option Block → ℕ → Store
with_block store slot block place = record store { blocks = slice_set store.blocks slot block; places = slice_set store.places slot place }

-- the store with these limits
abbrev pub with_limits : Store → Limits → Store
with_limits store limits = record store { len = record store.len { most = limits.most; handles = limits.handles } }

-- blocks may have this many bytes together
abbrev pub with_most : Store → ℕ → Store
with_most store most = record store { len = record store.len { most = most } }

-- new blocks of global memory may get handles up to this one
abbrev pub with_handles : Store → ℕ → Store
with_handles store handles = record store { len = record store.len { handles = handles } }

-- a block lies elsewhere
abbrev pub with_place : Store → ℕ → ℕ → Store
with_place store slot place = record store { places = slice_set store.places slot place }

-- a new block: not locked, of zero bytes
abbrev pub new_block : ℕ → Option Block
new_block size = Some (record { locks = 0; bytes = replicate size 0 })

-- a block with zeros appended to its bytes, up to this size
abbrev pub grown_block : Store → ℕ → ℕ → Option Block
grown_block store slot size = Some (record { locks = locks_of store slot; bytes = bytes_of store slot ++ replicate (size - size_of store slot) 0 })

-- a block locked n times
abbrev pub block_with_locks : Store → ℕ → ℕ → Option Block
block_with_locks store slot n = Some (record { locks = n; bytes = bytes_of store slot })

-- the store with n as the lock count of one block
abbrev pub with_locks : Store → ℕ → ℕ → Store
with_locks store slot n = record store { blocks = slice_set store.blocks slot (block_with_locks store slot n) }

-- a block locked once more
abbrev pub with_lock_more : Store → ℕ → Store
with_lock_more store slot = with_locks store slot (locks_of store slot + 1)

-- a block locked once less
abbrev pub with_lock_less : Store → ℕ → Store
with_lock_less store slot = with_locks store slot (locks_of store slot - 1)

-- the store without a block
abbrev pub without : Store → ℕ → Store
without store slot = with_block store slot None 0

-- the blocks with ws as the bytes of one, cut to its size, or filled up from what was there
abbrev pub blocks_with_bytes : List (Option Block) → ℕ → List ℕ → List (Option Block)
blocks_with_bytes [] slot ws = []
blocks_with_bytes (None ∷ blocks) zero ws = None ∷ blocks
blocks_with_bytes (Some block ∷ blocks) zero ws = Some (record block { bytes = with_part block.bytes zero ws }) ∷ blocks
blocks_with_bytes (block ∷ blocks) (suc slot) ws = block ∷ blocks_with_bytes blocks slot ws

-- the store with ws as the bytes of one block
abbrev pub with_bytes : Store → ℕ → List ℕ → Store
with_bytes store slot ws = record store { blocks = blocks_with_bytes store.blocks slot ws }

-- a block at this place, after ws were written at an offset: what falls into it is written
abbrev pub block_after_write : Option Block → ℕ → ℕ → List ℕ → Option Block
block_after_write None place at ws = None
block_after_write (Some block) place at ws = Some (record block { bytes = with_part block.bytes (at - place) (drop (place - at) ws) })

-- all blocks with their places, after ws were written at an offset of the region
abbrev pub blocks_after_write : List (Option Block) → List ℕ → ℕ → List ℕ → List (Option Block)
blocks_after_write [] places at ws = []
blocks_after_write (block ∷ blocks) [] at ws = block ∷ blocks
blocks_after_write (block ∷ blocks) (place ∷ places) at ws = block_after_write block place at ws ∷ blocks_after_write blocks places at ws

-- the store after ws were written at an offset of the region
abbrev pub after_write : Store → ℕ → List ℕ → Store
after_write store at ws = record store { blocks = blocks_after_write store.blocks store.places at ws }

-- each locked block except one lies where it lay
abbrev pub LockedStay : Store → Store → ℕ → Type 0
LockedStay old new but = (slot : ℕ) → slot ≢ but → 0 < locks_of old slot → place_of new slot ≡ place_of old slot
