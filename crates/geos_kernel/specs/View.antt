-- The memory of the model that a kernel's blocks represent, with a VM file.
use Rattle.std.specs.Prelude.{ℕ, ◌≡◌, ◌<◌, true, List, take, map}
use Rattle.geos_terms.specs.declared.name.Name.{Name}
use Rattle.geos_terms.specs.declared.name.Owner.TheVariants.{Vm}
use Rattle.block_handles.specs.Names.{slot_of}
use Rattle.block_handles.specs.Store as store
use Rattle.geos_calls.specs.Memory as model
use Rattle.geos_calls.specs.VmFile.{VmFile}
use Rattle.vm_file.specs.Device.{Medium}
use Rattle.vm_file.specs.State.{FileState}
use Rattle.vm_blocks.specs.View.{VmState, held_at}
use Rattle.vm_blocks.specs.Blocks.{is_marked_in}
use Rattle.vm_blocks.specs.FileOf as vm
pub use Rattle.vm_blocks.specs.Spelled.{block_in, spelled}
pub use Rattle.chunk_calls.specs.Heaps.{chunks_at, size_at}

-- what contracts know of a device: the bytes that it returns, and how often it has failed
pub record Seen : Type 0 where
  pub image : List ℕ
  pub failed : ℕ

-- a kernel as its calls see it: the blocks in its region, and its VM file on the known part of the device
pub record KernelState : Type 0 where
  pub blocks : store.Store
  pub vm : VmState Seen

-- a kernel on a device: the part that its calls see, which does not depend on the type of the device, and the device
pub record KernelOn (D : Type 0) : Type 0 where
  pub core : KernelState
  pub device : D

-- the known part of a device
abbrev pub seen : {D : Type 0} → Medium D → D → Seen
seen medium d = record { image = medium.image d; failed = medium.failed d }

-- the same file on another state of a device, or on its known part
abbrev pub file_over : {D E : Type 0} → E → FileState D → FileState E
file_over device f = record {
  device = device;
  area = f.area;
  second = f.second;
  sure = f.sure;
  current = f.current;
  saved = f.saved;
}

-- the same VM blocks on another state of a device, or on its known part
abbrev pub vm_over : {D E : Type 0} → E → VmState D → VmState E
vm_over device v = record { file = file_over device v.file; entries = v.entries; map_block = v.map_block; map_item = v.map_item }

-- a kernel of these blocks, as its calls see it
abbrev pub core_of : {D : Type 0} → Medium D → VmState D → store.Store → KernelState
core_of medium v s = record { blocks = s; vm = vm_over (seen medium v.file.device) v }

-- a kernel of these blocks on its device
abbrev pub kernel_of : {D : Type 0} → Medium D → VmState D → store.Store → KernelOn D
kernel_of medium v s = record { core = core_of medium v s; device = v.file.device }

-- the known bytes
abbrev pub image_seen : Seen → List ℕ
image_seen d = d.image

-- how often a kernel's device has failed
abbrev pub failed_in : KernelState → ℕ
failed_in s = s.vm.file.device.failed

-- the kernel's count of failures is the device's
abbrev pub SeesDevice : {D : Type 0} → Medium D → KernelOn D → Type 0
SeesDevice medium k = failed_in k.core ≡ medium.failed k.device

-- what all blocks of global memory represent, with the VM file that the model knows
abbrev pub memory_of : KernelState → VmFile → model.Memory
memory_of s f = record { blocks = map block_in (take 1024 s.blocks.blocks); file = f; region = s.blocks.len.most; handles = s.blocks.len.handles }

-- how the VM file that the model knows is tied to a kernel: it lists what the kernel lists, and has the blocks that
-- are in memory; and if the device is honest (`good`), it has what the device returns
abbrev pub IsFileOf : Type 0 → KernelState → VmFile → Type 0
IsFileOf good s f = vm.IsFileOf image_seen (λ d. good) s.vm s.blocks f

-- a named block is locked
abbrev pub IsLocked : KernelState → Name → Type 0
IsLocked s name = 0 < store.locks_of s.blocks (slot_of name)

-- a block of the VM file is marked as changed
abbrev pub IsMarked : KernelState → ℕ → Type 0
IsMarked s h = is_marked_in (held_at s.vm h) ≡ true

-- the bytes of a named block may be changed: a block of the VM file must be marked
abbrev pub MayChange : KernelState → Name → Type 0
MayChange s name = name.owner ≡ Vm → IsMarked s name.h
