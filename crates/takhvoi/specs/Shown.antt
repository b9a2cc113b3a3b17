-- What a debugger is shown of a kernel.
use Rattle.std.specs.Prelude.{◌≡◌, ◌<◌, ◌+◌, ℕ, List, length, Option, option_map, IsPermutation}
use Rattle.std.specs.List.Sorted.{IsNonDecreasingBy}
use Rattle.lmem_raw.specs.Bytes.{part}
use Rattle.geos_terms.specs.declared.name.Name.{Name}
use Rattle.geos_terms.specs.Block.{place_of}
use Rattle.block_handles.specs.Layout.{IsRegion}
use Rattle.block_handles.specs.Names.{slot_of}
use Rattle.block_handles.specs.Store as store
use Rattle.block_handles.specs.Store.{Block, IsThere, Store, block_at, bytes_of, region_len}
use Rattle.takhvoi.specs.declared.places.Chunk.{Chunk}
use Rattle.takhvoi.specs.declared.places.Place.{Place}
use Rattle.takhvoi.specs.declared.system.System.{System}
use Rattle.takhvoi.specs.Names.{name_of}
use Rattle.takhvoi.specs.Records.{Shows, records_below}

-- 111: the allocator refused memory
abbrev pub IsNoMemory : ℕ → System → Type 0
IsNoMemory status s = status ≡ 111

-- the block with a number, if it is in memory: its number, where it begins in the region, its size, and how often it is locked
abbrev pub place_in : Store → ℕ → Option Place
place_in s block =
    option_map (λ (b : Block). record { block = block; at = store.place_of s (slot_of (name_of block)); size = length b.bytes; locks = b.locks })
    (block_at s (slot_of (name_of block)))

-- the numbers of blocks are below this one
abbrev pub past_blocks : ℕ
past_blocks = 66561

-- these are all blocks in memory, in the order in which they lie in the region
pub record ArePlaces (s : Store) (places : List Place) : Type 0 where
  pub every : IsPermutation (records_below (place_in s) past_blocks) places
  pub ordered : IsNonDecreasingBy (λ (p : Place). p.at) places

-- these are bytes of the region, from an offset on
abbrev pub AreOfRegion : Store → ℕ → List ℕ → Type 0
AreOfRegion s at bytes = (region : List ℕ) × IsRegion s region × (bytes ≡ part region at (length bytes))

-- 105: the region has fewer than n bytes from an offset on
abbrev pub IsPastRegion : ℕ → ℕ → ℕ → System → Type 0
IsPastRegion at n status s = (status ≡ 105) × (region_len s.kernel.core.blocks < at + n)

-- a chunk of a block with these bytes, which begins at a place of the region: its handle, where its bytes begin in the region, and how many
-- there are. One of no byte has the place of the block
abbrev pub chunk_in : List ℕ → ℕ → ℕ → Option Chunk
chunk_in bytes place c = option_map (λ p. record { handle = c; at = place + p.at; len = p.len }) (place_of bytes c)

-- these are all chunks of a block in memory, by their handles
abbrev pub AreChunks : Store → ℕ → List Chunk → Type 0
AreChunks s slot chunks = chunks ≡ records_below (chunk_in (bytes_of s slot) (store.place_of s slot)) 65535

-- the chunks of a block are shown; or the status is 1, and the block is not in memory. The kernel is as before
abbrev pub ShowsChunks : Name → ℕ → List Chunk → List Chunk → ℕ → System → System → Type 0
ShowsChunks name count before after status old new =
    (new.kernel ≡ old.kernel)
    × (status ≡ 0 → IsThere old.kernel.core.blocks (slot_of name)
    × Shows (AreChunks old.kernel.core.blocks (slot_of name)) count before after)
    × ((status ≡ 0 → ⊥) → (status ≡ 1) × (IsThere old.kernel.core.blocks (slot_of name) → ⊥))
