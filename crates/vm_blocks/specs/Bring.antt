-- How a block is loaded into memory and locked.
use Rattle.std.specs.Prelude.{◌≡◌, ◌≢◌, ℕ, ◌+◌, ◌<◌, ◌⊎◌, List, length, None, MatchResult, Result}
use Rattle.geos_terms.specs.Block.{handle_word}
use Rattle.geos_terms.specs.Heap.{IsHeap}
use Rattle.block_handles.specs.Change.{with_bytes, with_lock_more}
use Rattle.block_handles.specs.Layout.{IsLaidOut}
use Rattle.block_handles.specs.Store.{Store, IsThere, block_at, bytes_of, locks_of, place_of, size_of}
use Rattle.vm_blocks.specs.declared.error.LockError.{LockError}
use Rattle.vm_blocks.specs.declared.error.LockError.TheVariants.{Locked}
use Rattle.vm_blocks.specs.View.{VmState, vm_slot}
use Rattle.vm_blocks.specs.Room.{Goes}

-- a block of the file has other bytes, a heap under its handle, and every other block is unchanged
pub record Fills (old new : Store) (h : ℕ) : Type 0 where
  pub bytes : List ℕ
  pub long : length bytes ≡ size_of old (vm_slot h)
  pub is : new ≡ with_bytes old (vm_slot h) bytes
  pub heap : IsHeap bytes
  pub handle : handle_word bytes ≡ h

-- a block of the file is not in memory any more, and every other block is unchanged
pub record Drops (old new : Store) (h : ℕ) : Type 0 where
  pub gone : block_at new (vm_slot h) ≡ None
  pub others : (slot : ℕ) → slot ≢ vm_slot h → block_at new slot ≡ block_at old slot
  pub places : (slot : ℕ) → slot ≢ vm_slot h → place_of new slot ≡ place_of old slot
  pub laid : IsLaidOut old → IsLaidOut new
  pub len : new.len ≡ old.len

-- a slot is unchanged, and so is its place if it is locked; or its block was evicted
abbrev pub KeptOrGoes : {D : Type 0} → VmState D → Store → Store → ℕ → ℕ → Type 0
KeptOrGoes v old new h slot = ((block_at new slot ≡ block_at old slot) × (0 < locks_of old slot → place_of new slot ≡ place_of old slot))
    ⊎ Goes v old new h slot

-- every block except that of a handle is unchanged, and so is its place if it is locked; or it was evicted
pub record Keeps {D : Type 0} (v : VmState D) (old new : Store) (h : ℕ) : Type 0 where
  pub each : (slot : ℕ) → slot ≢ vm_slot h → KeptOrGoes v old new h slot
  pub laid : IsLaidOut new
  pub len : new.len ≡ old.len

-- a block is in memory now, with the same lock count, or 0 if it was not there; if it was there, nothing changed
pub record Brought (old new : Store) (h : ℕ) : Type 0 where
  pub there : IsThere new (vm_slot h)
  pub locks : locks_of new (vm_slot h) ≡ locks_of old (vm_slot h)
  pub stays : IsThere old (vm_slot h) → new ≡ old

-- a block was not loaded: if it was in memory, nothing changed; otherwise it is still not in memory
pub record NotBrought (old new : Store) (h : ℕ) : Type 0 where
  pub stays : IsThere old (vm_slot h) → new ≡ old
  pub absent : (IsThere old (vm_slot h) → ⊥) → block_at new (vm_slot h) ≡ None

-- a block is in memory and its lock count is one higher; if it was there before, it has the same bytes and place
pub record LockedMore (old new : Store) (h : ℕ) : Type 0 where
  pub there : IsThere new (vm_slot h)
  pub locks : locks_of new (vm_slot h) ≡ locks_of old (vm_slot h) + 1
  pub bytes : IsThere old (vm_slot h) → bytes_of new (vm_slot h) ≡ bytes_of old (vm_slot h)
  pub place : IsThere old (vm_slot h) → place_of new (vm_slot h) ≡ place_of old (vm_slot h)

-- a block that is in memory is locked once more, or its count is full, and nothing changes
abbrev pub LocksThere : ℕ → Result (Unit {0}) LockError → Store → Store → Type 0
LocksThere h result old new = MatchResult result (λ _. new ≡ with_lock_more old (vm_slot h)) (λ why. (why ≡ Locked) × (new ≡ old))
