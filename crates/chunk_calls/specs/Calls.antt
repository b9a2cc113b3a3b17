-- What calls on the chunks of a block in memory require, and what they leave unchanged.
use Rattle.std.specs.Prelude.{◌≡◌, OnErr, Result, Err}
use Rattle.geos_terms.specs.declared.name.Name.{Name}
use Rattle.geos_terms.specs.declared.refusal.Refusal.{Refusal}
use Rattle.geos_terms.specs.declared.refusal.Refusal.TheVariants.{NoRoom}
use Rattle.geos_calls.specs.Effects.{Call}
use Rattle.block_handles.specs.Store.{Store}
use Rattle.vm_file.specs.Device.{Medium}
use Rattle.vm_blocks.specs.DoesRow.{DoesRow}
use Rattle.vm_blocks.specs.Tied.{IsTied}
use Rattle.vm_blocks.specs.View.{VmState}
use Rattle.chunk_calls.specs.Heaps.{HoldsHeap}
use Rattle.chunk_calls.specs.Others.{IsMarkedIfVm, KeepsOthers}

-- a named block is in memory and is a heap, in a region that is tied to the file
pub record HoldsTied {D : Type 0} (medium : Medium D) (v : VmState D) (s : Store) (name : Name) : Type 0 where
  pub tied : IsTied medium v s
  pub heap : HoldsHeap s name

-- a call on the chunks of a named block does its row. A refusal changes nothing, except that a refusal for lack of room
-- may have evicted other blocks. Other blocks are unchanged or evicted. Table, region and file stay tied, provided that
-- a block of the file is marked.
pub record CallsChunks {D A : Type 0} (medium : Medium D)
    (call : Call A) (name : Name) (result : Result A Refusal) (v : VmState D) (s t : Store) : Type 0 where
  pub refused : (result ≡ Err NoRoom → ⊥) → OnErr result (t ≡ s)
  pub keeps : KeepsOthers v s t name
  pub tied : IsMarkedIfVm v name → IsTied medium v t
  pub row : DoesRow medium call result v s v t
