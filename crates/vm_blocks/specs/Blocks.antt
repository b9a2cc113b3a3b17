-- How calls change what is listed.
use Rattle.std.specs.Prelude.{◌≡◌, ℕ, ◌<◌, ◌==◌, Bool, true, false, if◌then◌else◌, [], ◌∷◌, length, Option, Some, None, is_some, IsSomeAnd}
use Rattle.geos_terms.specs.Block.{chunks, handle_word}
use Rattle.geos_terms.specs.Names.{vm}
use Rattle.geos_terms.specs.Heap.{IsHeap}
use Rattle.block_handles.specs.Names.{IsHandle}
use Rattle.block_handles.specs.Store.{Block, Store, block_at}
use Rattle.vm_blocks.specs.declared.entries.Held.{Held}
use Rattle.vm_blocks.specs.View.{VmState, held_at, vm_slot, with_held}
use Rattle.vm_blocks.specs.Bring.{Fills, Keeps}
use Rattle.vm_blocks.specs.Room.{LacksRoom}

-- the user ID of what is listed
abbrev pub uid_of : Held → ℕ
uid_of e = e.uid

-- what is listed is marked; nothing is not
abbrev pub is_marked_in : Option Held → Bool
is_marked_in None = false
is_marked_in (Some e) = e.marked

-- a listed block, marked as changed
abbrev pub marked : Held → Held
marked e = record e { marked = true }

-- a new block as it is listed: 64 bytes, marked
abbrev pub new_held : ℕ → Held
new_held uid = record { uid = uid; len = 64; marked = true }

-- no block is listed under a handle, and one under each lower handle
pub record IsLowestUnlisted {D : Type 0} (v : VmState D) (h : ℕ) : Type 0 where
  pub handle : IsHandle h
  pub free : held_at v h ≡ None
  pub lower : (k : ℕ) → IsHandle k → k < h → is_some (held_at v k) ≡ true

-- a block is listed under each handle
abbrev pub AllListed : {D : Type 0} → VmState D → Type 0
AllListed v = (h : ℕ) → IsHandle h → is_some (held_at v h) ≡ true

-- a block with this user ID is listed under a handle
abbrev pub HasUid : {D : Type 0} → VmState D → ℕ → ℕ → Type 0
HasUid v uid h = IsSomeAnd (held_at v h) (λ e. e.uid ≡ uid)

-- the lowest handle above one of a block with this user ID
pub record IsNextWith {D : Type 0} (v : VmState D) (start uid h : ℕ) : Type 0 where
  pub handle : IsHandle h
  pub above : start < h
  pub has : HasUid v uid h
  pub first : (k : ℕ) → start < k → k < h → HasUid v uid k → ⊥

-- no block above a handle has this user ID
abbrev pub NoneWith : {D : Type 0} → VmState D → ℕ → ℕ → Type 0
NoneWith v start uid = (k : ℕ) → start < k → HasUid v uid k → ⊥

-- a new block became a heap without a chunk under its handle, and every other block is unchanged
pub record BecomesHeap (old new : Store) (h : ℕ) : Type 0 where
  pub fills : Fills old new h
  pub chunks : chunks fills.bytes ≡ None ∷ None ∷ []

-- a new block in memory: 64 bytes, a heap without a chunk under its handle, locked n times
pub record IsNew (s : Store) (h n : ℕ) : Type 0 where
  pub block : Block
  pub at : block_at s (vm_slot h) ≡ Some block
  pub locks : block.locks ≡ n
  pub long : length block.bytes ≡ 64
  pub heap : IsHeap block.bytes
  pub handle : handle_word block.bytes ≡ h
  pub chunks : chunks block.bytes ≡ None ∷ None ∷ []

-- a new block under the lowest handle that was not listed, with this user ID, marked, locked n times
pub record Adds {D : Type 0} (v w : VmState D) (old new : Store) (uid n h : ℕ) : Type 0 where
  pub lowest : IsLowestUnlisted v h
  pub state : w ≡ with_held v h (Some (new_held uid))
  pub keeps : Keeps v old new h
  pub is : IsNew new h n

-- no room for a new block under the lowest handle that is not listed
pub record LacksRoomForNew {D : Type 0} (v : VmState D) (old new : Store) : Type 0 where
  pub h : ℕ
  pub lowest : IsLowestUnlisted v h
  pub lacks : LacksRoom v old new (vm h) 64

-- what is listed without a block: it is mapped no more
abbrev pub without_held : {D : Type 0} → VmState D → ℕ → VmState D
without_held v h = record (with_held v h None) {
  map_block = if v.map_block == h then 0 else v.map_block;
  map_item = if v.map_item.0 == h then (0, 0) else v.map_item;
}
