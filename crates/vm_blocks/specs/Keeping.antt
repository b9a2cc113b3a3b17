-- Changes of the region by others, over which blocks of the file stay tied.
use Rattle.std.specs.Prelude.{◌≡◌, ◌≢◌, ℕ, true, Some}
use Rattle.geos_terms.specs.Block.{handle_word}
use Rattle.geos_terms.specs.Heap.{IsHeap}
use Rattle.block_handles.specs.Names.{IsHandle}
use Rattle.block_handles.specs.Store.{Block, Store, IsThere, block_at, bytes_of}
use Rattle.vm_file.specs.Device.{Medium}
use Rattle.vm_blocks.specs.declared.entries.Held.{Held}
use Rattle.vm_blocks.specs.Bring.{Keeps}
use Rattle.vm_blocks.specs.Tied.{IsTied}
use Rattle.vm_blocks.specs.View.{VmState, held_at, vm_slot}

-- the blocks of the file that are in memory are the same, except that of a handle; 0 stands for no handle
abbrev pub SameBut : Store → Store → ℕ → Type 0
SameBut s t but = (h : ℕ) → IsHandle h → h ≢ but → block_at t (vm_slot h) ≡ block_at s (vm_slot h)

-- a marked block of the file is in memory, a heap under its handle
pub record IsMarkedHeap {D : Type 0} (v : VmState D) (s : Store) (h : ℕ) : Type 0 where
  pub handle : IsHandle h
  pub held : Held
  pub listed : held_at v h ≡ Some held
  pub marked : held.marked ≡ true
  pub block : Block
  pub at : block_at s (vm_slot h) ≡ Some block
  pub heap : IsHeap block.bytes
  pub word : handle_word block.bytes ≡ h

-- a block of the file has changed in memory, and is a heap under its handle.
-- Before that all blocks were tied. Every other block is unchanged or evicted.
pub record IsChanged {D : Type 0} (medium : Medium D) (v : VmState D) (s : Store) (h : ℕ) : Type 0 where
  pub before : Store
  pub tied : IsTied medium v before
  pub was : IsThere before (vm_slot h)
  pub keeps : Keeps v before s h
  pub there : IsThere s (vm_slot h)
  pub heap : IsHeap (bytes_of s (vm_slot h))
  pub word : handle_word (bytes_of s (vm_slot h)) ≡ h
