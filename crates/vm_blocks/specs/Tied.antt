-- How the blocks in memory are tied to the file.
use Rattle.std.specs.Prelude.{◌≡◌, ◌≢◌, ℕ, false, List, length, Option, Some, None, IsSomeAnd}
use Rattle.geos_terms.specs.Block.{handle_word}
use Rattle.geos_terms.specs.Heap.{IsBlockSize, IsHeap}
use Rattle.block_handles.specs.Layout.{IsLaidOut}
use Rattle.block_handles.specs.Names.{IsHandle}
use Rattle.block_handles.specs.Store.{Block, Store, block_at}
use Rattle.vm_file.specs.Device.{Medium}
use Rattle.geos_terms.specs.Names.{group_uid}
use Rattle.vm_file.specs.State.{FileState, HasBlock}
use Rattle.vm_blocks.specs.declared.entries.Held.{Held}
use Rattle.vm_blocks.specs.View.{VmState, bytes_read, held_at, vm_slot}

-- the bytes of a block that is not marked: they have the listed
-- length and, if the device is honest, are those on the device
pub record IsClean {D : Type 0} (medium : Medium D) (f : FileState D) (h : ℕ) (len : ℕ) (bytes : List ℕ) : Type 0 where
  pub long : length bytes ≡ len
  pub same : medium.honest f.device → bytes ≡ bytes_read medium.image f h

-- a block in memory: a heap under its handle; if it is not marked, the file has it with the same bytes
pub record IsResident {D : Type 0} (medium : Medium D) (f : FileState D) (h : ℕ) (e : Held) (bytes : List ℕ) : Type 0 where
  pub size : IsBlockSize e.len
  pub heap : IsHeap bytes
  pub handle : handle_word bytes ≡ h
  pub kept : e.marked ≡ false → HasBlock f.current h e.len
  pub clean : e.marked ≡ false → IsClean medium f h e.len bytes

-- a block that is not in memory: it is not marked, and the file has it
pub record IsAbsent {D : Type 0} (f : FileState D) (h : ℕ) (e : Held) : Type 0 where
  pub size : IsBlockSize e.len
  pub clean : e.marked ≡ false
  pub kept : HasBlock f.current h e.len

-- what is listed under a handle, and what is in memory: what is not listed is not in memory
abbrev pub TiedAt : {D : Type 0} → Medium D → FileState D → ℕ → Option Held → Option Block → Type 0
TiedAt medium f h None None = Unit {0}
TiedAt medium f h None (Some b) = ⊥
TiedAt medium f h (Some e) None = IsAbsent f h e
TiedAt medium f h (Some e) (Some b) = IsResident medium f h e b.bytes

-- the map block is 0 or a block that is no group; the map item's group is 0 or a group; if it is 0, so is the item
pub record AreMapped {D : Type 0} (v : VmState D) : Type 0 where
  pub block : v.map_block ≢ 0 → IsSomeAnd (held_at v v.map_block) (λ e. e.uid ≢ group_uid)
  pub group : v.map_item.0 ≢ 0 → IsSomeAnd (held_at v v.map_item.0) (λ e. e.uid ≡ group_uid)
  pub no_item : v.map_item.0 ≡ 0 → v.map_item.1 ≡ 0

-- blocks lie in the region, there are 1,024 handles, each is tied, and what is mapped is listed
pub record IsTied {D : Type 0} (medium : Medium D) (v : VmState D) (s : Store) : Type 0 where
  pub laid : IsLaidOut s
  pub long : length v.entries ≡ 1024
  pub each : (h : ℕ) → IsHandle h → TiedAt medium v.file h (held_at v h) (block_at s (vm_slot h))
  pub maps : AreMapped v

-- no block of the file is in memory
abbrev pub NoneResident : Store → Type 0
NoneResident s = (h : ℕ) → IsHandle h → block_at s (vm_slot h) ≡ None
