-- The store that a region and a table of entries encode.
use Rattle.std.specs.Prelude.{◌≡◌, ℕ, ◌+◌, ◌/◌, ◌^◌, ◌<◌, ◌≤◌, List, length, Option, Some, None, map, slice_index_or}
use Rattle.block_handles.specs.declared.table.Entry.{Entry}
use Rattle.block_handles.specs.Store.{Block, Store, size_of, place_of, whole}
use Rattle.block_handles.specs.Layout.{IsLaidOut}
use Rattle.lmem_raw.specs.Bytes.{part}

-- the block of an entry: its bytes are cut out of the region
abbrev pub block_in : List ℕ → Option Entry → Option Block
block_in region None = None
block_in region (Some entry) = Some (record { locks = entry.locks; bytes = part region entry.place entry.size })

-- the place of an entry's block
abbrev pub place_in : Option Entry → ℕ
place_in None = 0
place_in (Some entry) = entry.place

-- the store that a region and a table encode, without a limit
abbrev pub store_in : List ℕ → List (Option Entry) → Store
store_in region table = record { blocks = map (block_in region) table; places = map place_in table; len = whole (length region) }

-- an entry's block lies in the region
abbrev pub Lies : List ℕ → Option Entry → Type 0
Lies region None = Unit {0}
Lies region (Some entry) = entry.place + entry.size ≤ length region

-- the index has each block at the granule of 64 bytes in which it begins, and nothing else
pub record IsIndexed (store : Store) (index : List (Option ℕ)) : Type 0 where
  pub long : length index ≡ store.len.region / 64 + 1
  pub found : (slot : ℕ) → 0 < size_of store slot → slice_index_or index (place_of store slot / 64) None ≡ Some slot
  pub real : (granule slot : ℕ) → slice_index_or index granule None ≡ Some slot → (0 < size_of store slot) × (place_of store slot / 64 ≡ granule)

-- the invariant of an arena's fields
pub record IsSound (region : List ℕ) (table : List (Option Entry)) (index : List (Option ℕ)) : Type 0 where
  pub lies : (slot : ℕ) → Lies region (slice_index_or table slot None)
  pub laid : IsLaidOut (store_in region table)
  pub indexed : IsIndexed (store_in region table) index
  pub short : length region < 2 ^ 32
