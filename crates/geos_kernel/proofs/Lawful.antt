-- The memory of a kernel is legal.
use Rattle.std.proofs.Common.{ℕ, ◌≤◌, List, Option, Some, None}
use Rattle.std.specs.Prelude.{IfSome}
use Rattle.geos_terms.specs.Names.{mem}
use Rattle.geos_terms.specs.Heap.{IsHeap}
use Rattle.geos_calls.specs.Legal.{AreBytes, IsLegalBlock, IsMemory}
use Rattle.geos_calls.specs.Memory.{Memory, block_of}
use Rattle.geos_calls.proofs.LegalHeaps.{heap-legal}
use Rattle.block_handles.specs.Names.{slot_of}
use Rattle.block_handles.specs.Layout.{IsRegion}
use Rattle.block_handles.specs.Store.{Block, Store, block_at, bytes_in, IsBlock, locks_in}
use Rattle.vm_file.specs.Device.{Medium}
use Rattle.vm_blocks.specs.FileOf.{IsMemoryOf}
use Rattle.vm_blocks.specs.Spelled.{block_in}
use Rattle.vm_blocks.specs.View.{VmState}
use Rattle.geos_kernel.specs.Kernel.{IsKernel}
use Rattle.geos_kernel.proofs.Lowest.{count}
use Rattle.chunk_calls.proofs.Named.{mem-known}
use Rattle.chunk_calls.proofs.Values.{values-of}

-- a block whose bytes are a heap represents a legal block
block-legal : (o : Option Block) → (IsBlock o → IsHeap (bytes_in o)) → AreBytes (bytes_in o) → locks_in o ≤ 65535 → IfSome (block_in o) IsLegalBlock
block-legal None heap bytes few = tt
block-legal (Some b) heap bytes few = record { heap = heap-legal b.bytes (heap tt) bytes; few = few }

-- where the region is of bytes, memory is legal
pub memory-legal : {D : Type 0} (medium : Medium D) (v : VmState D) (s : Store) (region : List ℕ) → IsKernel medium v s
    → IsRegion s region → AreBytes region → (m : Memory) → IsMemoryOf medium v s m → IsMemory m
memory-legal medium v s region k lies bytes m is = record { handles = count medium v s m k.tied is; blocks = blocks; file = is.file.legal }
  where
    blocks : (h : ℕ) → IfSome (block_of m (mem h)) IsLegalBlock
    blocks h =
        let name = mem h in
        rw (mem-known medium v s k.tied m is h) (block-legal (block_at s (slot_of name)) (k.heaps name)
        (values-of s (slot_of name) region lies bytes) (k.few name))
