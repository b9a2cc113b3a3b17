-- What stays if one block changes: every other block, unless it is evicted.
use Rattle.std.specs.Prelude.{◌≡◌, ◌≢◌, ℕ, true}
use Rattle.geos_terms.specs.declared.name.Name.{Name}
use Rattle.geos_terms.specs.declared.name.Owner.TheVariants.{Vm}
use Rattle.geos_terms.specs.Block.{handle_word}
use Rattle.geos_terms.specs.Heap.{IsHeap}
use Rattle.block_handles.specs.Layout.{IsLaidOut}
use Rattle.block_handles.specs.Names.{slot_of}
use Rattle.block_handles.specs.Store.{Store, IsThere, bytes_of, locks_of}
use Rattle.vm_blocks.specs.Blocks.{is_marked_in}
use Rattle.vm_blocks.specs.Bring.{KeptOrGoes}
use Rattle.vm_blocks.specs.Room.{own_handle}
use Rattle.vm_blocks.specs.View.{VmState, held_at}

-- every block except a named one is unchanged, and so is its place if it is locked; or it was evicted
pub record KeepsBut {D : Type 0} (v : VmState D) (old new : Store) (name : Name) : Type 0 where
  pub each : (slot : ℕ) → slot ≢ slot_of name → KeptOrGoes v old new (own_handle name) slot
  pub laid : IsLaidOut new
  pub len : new.len ≡ old.len

-- the same, and the named block is in memory, with the same lock count, and is a heap with the same handle word
pub record KeepsOthers {D : Type 0} (v : VmState D) (old new : Store) (name : Name) : Type 0 where
  pub others : KeepsBut v old new name
  pub there : IsThere new (slot_of name)
  pub locks : locks_of new (slot_of name) ≡ locks_of old (slot_of name)
  pub heap : IsHeap (bytes_of new (slot_of name))
  pub handle : handle_word (bytes_of new (slot_of name)) ≡ handle_word (bytes_of old (slot_of name))

-- the bytes of a named block may change without breaking the tie: if it is a block of the file, it is marked
abbrev pub IsMarkedIfVm : {D : Type 0} → VmState D → Name → Type 0
IsMarkedIfVm v name = name.owner ≡ Vm → is_marked_in (held_at v name.h) ≡ true
