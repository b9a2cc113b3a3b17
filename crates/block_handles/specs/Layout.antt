-- How blocks lie in the region.
use Rattle.std.specs.Prelude.{◌≡◌, ◌≢◌, ℕ, ◌≤◌, ◌⊎◌, List, length, None}
use Rattle.lmem_raw.specs.Bytes.{part}
use Rattle.geos_terms.specs.Heap.{IsBlockSize}
use Rattle.block_handles.specs.Store.{Store, block_at, IsThere, bytes_of, size_of, place_of, end_of, slot_count, whole}

-- one block ends before the other begins
abbrev pub Apart : Store → ℕ → ℕ → Type 0
Apart store i j = (end_of store i ≤ place_of store j) ⊎ (end_of store j ≤ place_of store i)

-- no block has a byte from `from` to `until`
abbrev pub IsFree : Store → ℕ → ℕ → Type 0
IsFree store from until = (slot : ℕ) → (end_of store slot ≤ from) ⊎ (until ≤ place_of store slot)

-- nor has one but this
abbrev pub IsFreeBut : Store → ℕ → ℕ → ℕ → Type 0
IsFreeBut store but from until = (slot : ℕ) → slot ≢ but → (end_of store slot ≤ from) ⊎ (until ≤ place_of store slot)

-- blocks lie in the region, no two overlap, sizes are legal, and a slot with none has place 0
pub record IsLaidOut (store : Store) : Type 0 where
  pub slots : slot_count store ≡ 2048
  pub spots : length store.places ≡ 2048
  pub within : (slot : ℕ) → end_of store slot ≤ store.len.region
  pub apart : (i j : ℕ) → i ≢ j → Apart store i j
  pub sized : (slot : ℕ) → IsThere store slot → IsBlockSize (size_of store slot)
  pub none : (slot : ℕ) → size_of store slot ≡ 0 → place_of store slot ≡ 0

-- a region of this length with no block, and no limit
pub record IsEmpty (store : Store) (len : ℕ) : Type 0 where
  pub none : (slot : ℕ) → block_at store slot ≡ None
  pub long : store.len ≡ whole len
  pub laid : IsLaidOut store

-- the bytes in which the blocks lie, each from its place on
pub record IsRegion (store : Store) (region : List ℕ) : Type 0 where
  pub long : length region ≡ store.len.region
  pub blocks : (slot : ℕ) → bytes_of store slot ≡ part region (place_of store slot) (size_of store slot)
