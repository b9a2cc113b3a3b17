-- What a debugger is shown of the VM file.
use Rattle.std.specs.Prelude.{◌≡◌, ℕ, List, length, Option, Some, None, option_map}
use Rattle.geos_terms.specs.Names.{vm}
use Rattle.block_handles.specs.Names.{slot_of}
use Rattle.block_handles.specs.Store.{Block, block_at, locks_of}
use Rattle.vm_blocks.specs.declared.entries.Held.{Held}
use Rattle.vm_blocks.specs.View.{held_at}
use Rattle.geos_kernel.specs.View.{KernelState}
use Rattle.takhvoi.specs.declared.entries.FileEntry.{FileEntry}
use Rattle.takhvoi.specs.Records.{flag, records_below}

-- the size of a block; without one `len`
abbrev pub size_or : ℕ → Option Block → ℕ
size_or len None = len
size_or len (Some block) = length block.bytes

-- 1 for a block, otherwise 0
abbrev pub is_block : Option Block → ℕ
is_block None = 0
is_block (Some block) = 1

-- what is listed under a handle: the handle, the user ID, the size of the block in memory, or in the file if it is not in memory, whether it is in
-- memory, whether it is marked, and how often it is locked
abbrev pub entry_in : KernelState → ℕ → Option FileEntry
entry_in s h =
    option_map (λ (held : Held). record {
      handle = h;
      user_id = held.uid;
      size = size_or held.len (block_at s.blocks (slot_of (vm h)));
      in_memory = is_block (block_at s.blocks (slot_of (vm h)));
      marked = flag held.marked;
      locks = locks_of s.blocks (slot_of (vm h));
    }) (held_at s.vm h)

-- these are all blocks and groups of the VM file, by their handles
abbrev pub AreEntries : KernelState → List FileEntry → Type 0
AreEntries s entries = entries ≡ records_below (entry_in s) 1025
