-- Changes of the region by other calls that preserve the relation to the model's memory.
use Rattle.std.specs.Prelude.{◌≡◌, ℕ, ◌≤◌, true, map, take, Some}
use Rattle.geos_terms.specs.Names.{vm}
use Rattle.geos_terms.specs.declared.name.Name.{Name}
use Rattle.geos_calls.specs.Legal.{AreBytes}
use Rattle.geos_calls.specs.Memory.{Memory, with_block}
use Rattle.geos_calls.specs.Tight.{is_tight}
use Rattle.geos_calls.specs.VmFile.{VmFile}
use Rattle.block_handles.specs.Names.{IsHandle, slot_of}
use Rattle.block_handles.specs.Store.{Store}
use Rattle.block_handles.specs.Stretch.{IsCrowded}
use Rattle.vm_file.specs.Device.{Medium}
use Rattle.vm_blocks.specs.View.{VmState}
use Rattle.vm_blocks.specs.FileOf.{IsMemoryOf}
use Rattle.vm_blocks.specs.Keeping.{IsMarkedHeap, SameBut}
use Rattle.vm_blocks.specs.Room.{NoneIdle, Thins, own_handle}
use Rattle.vm_blocks.specs.Spelled.{block_in, spelled}
use Rattle.vm_blocks.specs.Tied.{IsTied}

-- memory with this file, and with the blocks of global memory and the limits of a store
pub record IsSpelled (s : Store) (f : VmFile) (m : Memory) : Type 0 where
  pub blocks : m.blocks ≡ map block_in (take 1024 s.blocks)
  pub file : m.file ≡ f
  pub region : m.region ≡ s.len.most
  pub handles : m.handles ≡ s.len.handles

-- other blocks change: the model's file is the same
abbrev pub OthersMayChange : {D : Type 0} → Medium D → VmState D → Type 0
OthersMayChange medium v = (s t : Store) (m n : Memory) → IsMemoryOf medium v s m → SameBut s t 0 → IsSpelled t m.file n → IsMemoryOf medium v t n

-- if blocks are evicted, except possibly the block of one handle (0 for none), the model's memory is unchanged
abbrev pub BlocksMayGo : {D : Type 0} → Medium D → VmState D → Type 0
BlocksMayGo medium v = (s t : Store) (but : ℕ) → IsTied medium v s → Thins v s t but → IsTied medium v t
    × ((m : Memory) → IsMemoryOf medium v s m → IsMemoryOf medium v t m)

-- a marked block becomes another heap under its handle, with another
-- lock count: the model's block is what the new bytes encode
abbrev pub MarkedMayChange : {D : Type 0} → Medium D → VmState D → Type 0
MarkedMayChange medium v =
    (s t : Store) (m n : Memory) (h : ℕ) → IsTied medium v s → IsMemoryOf medium v s m → SameBut s t h
    → (own : IsMarkedHeap v t h) → own.block.locks ≤ 65535 → AreBytes own.block.bytes
    → IsSpelled t (with_block m (vm h) (Some (spelled own.block.locks own.block.bytes))).file n → IsMemoryOf medium v t n

-- if no other block may be evicted, and no stretch of the region has room, then the model's memory may lack room too
abbrev pub RoomMayWant : {D : Type 0} → Medium D → VmState D → Type 0
RoomMayWant medium v =
    (s : Store) (m : Memory) (name : Name) (size : ℕ) → IsTied medium v s → IsMemoryOf medium v s m → IsHandle name.h
    → NoneIdle v s (own_handle name) → IsCrowded s (slot_of name) size → is_tight m name size ≡ true
