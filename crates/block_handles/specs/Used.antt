-- Which slots are in use, which handle is the lowest that is free, how many bytes are, and how often blocks are locked.
use Rattle.std.specs.Prelude.{◌≡◌, ℕ, ◌+◌, ◌<◌, ◌≤◌, ◌^◌, List, length}
use Rattle.geos_terms.specs.declared.name.Owner.{Owner}
use Rattle.block_handles.specs.declared.room.Gap.{Gap}
use Rattle.block_handles.specs.Bits.{bit_of}
use Rattle.block_handles.specs.Gap.{IsReady}
use Rattle.block_handles.specs.Names.{IsHandle, slot_of}
use Rattle.block_handles.specs.Store.{Store, IsThere, locks_of, most_of, region_len}
use Rattle.block_handles.specs.Stretch.{all_sizes, vm_locks}

-- the bits show which slots are in use
pub record IsUsed (store : Store) (words : List ℕ) : Type 0 where
  pub long : length words ≡ 32
  pub there : (slot : ℕ) → slot < 2048 → bit_of words slot ≡ 1 → IsThere store slot
  pub none : (slot : ℕ) → slot < 2048 → bit_of words slot ≡ 0 → IsThere store slot → ⊥

-- blocks may have so many bytes more, and never more than the region
pub record IsFreeCount (store : Store) (free : ℕ) : Type 0 where
  pub counted : free + all_sizes store ≡ most_of store
  pub within : most_of store ≤ region_len store
  pub short : region_len store < 2 ^ 32

-- the sum of the lock counts of the blocks of the VM file; no lock count exceeds 65,535
pub record IsLockSum (store : Store) (held : ℕ) : Type 0 where
  pub added : held ≡ vm_locks store
  pub each : (slot : ℕ) → locks_of store slot ≤ 65535

-- the invariant of the fields
pub record IsKept (store : Store) (gap : Gap) (words : List ℕ) (free held : ℕ) : Type 0 where
  pub ready : IsReady store gap
  pub used : IsUsed store words
  pub count : IsFreeCount store free
  pub locked : IsLockSum store held

-- a handle of an owner names no block, and each lower one does
pub record IsLowest (store : Store) (owner : Owner) (h : ℕ) : Type 0 where
  pub handle : IsHandle h
  pub free : IsThere store (slot_of (record { owner = owner; h = h })) → ⊥
  pub lower : (k : ℕ) → IsHandle k → k < h → IsThere store (slot_of (record { owner = owner; h = k }))

-- each handle of an owner names a block
abbrev pub AllInUse : Store → Owner → Type 0
AllInUse store owner = (h : ℕ) → IsHandle h → IsThere store (slot_of (record { owner = owner; h = h }))
