-- What contracts see of VM blocks: a file, and the blocks of its current directory by handles.
use Rattle.std.specs.Prelude.{ℕ, List, Option, None}
use Rattle.geos_terms.specs.Names.{vm}
use Rattle.geos_calls.specs.Handles.{at_handle, with_entry_at}
use Rattle.block_handles.specs.Names.{slot_of}
use Rattle.vm_file.specs.State.{FileState, bytes_of_block, pair_of}
use Rattle.vm_blocks.specs.declared.entries.Held.{Held}

-- a file; the blocks of the current directory by handles, starting with handle 1; and what is mapped
pub record VmState (D : Type 0) : Type 0 where
  pub file : FileState D
  pub entries : List (Option Held)
  pub map_block : ℕ
  pub map_item : ℕ × ℕ

-- the slot of a handle in the region
abbrev pub vm_slot : ℕ → ℕ
vm_slot h = slot_of (vm h)

-- what is listed under a handle
abbrev pub held_at : {D : Type 0} → VmState D → ℕ → Option Held
held_at v h = at_handle None v.entries h

-- this, or nothing, is listed under a handle
abbrev pub with_held : {D : Type 0} → VmState D → ℕ → Option Held → VmState D
with_held v h held = record v { entries = with_entry_at v.entries h held }

-- the same over another state of the device
abbrev pub with_device : {D : Type 0} → VmState D → D → VmState D
with_device v device = record v { file = record v.file { device = device } }

-- the bytes that the device has for the block of a handle
abbrev pub bytes_read : {D : Type 0} → (D → List ℕ) → FileState D → ℕ → List ℕ
bytes_read image f h = bytes_of_block (pair_of image f).cur.blocks h
