-- When blocks of the model are those that a VM file lists. `good` means that
-- the device is honest: only then is the model's block what the device returns.
use Rattle.std.specs.Prelude.{◌≡◌, ℕ, ◌==◌, false, List, length, map, find, Option, Some, None, option_map}
use Rattle.std.specs.List.{range_with_len}
use Rattle.geos_calls.specs.Blocks.{Heap}
use Rattle.geos_calls.specs.Directories.{VmBlock, KeptBlock}
use Rattle.geos_calls.specs.Directories as model
use Rattle.geos_calls.specs.Handles.{at_handle}
use Rattle.geos_calls.specs.VmFile as model_file
use Rattle.block_handles.specs.Names.{IsHandle}
use Rattle.block_handles.specs.Store as store
use Rattle.vm_file.specs.declared.directory.Directory.{Directory}
use Rattle.vm_file.specs.declared.directory.Entry.{Entry}
use Rattle.vm_file.specs.Contents.{Block, Contents, Pair, listed}
use Rattle.vm_file.specs.State.{bytes_of_block}
use Rattle.vm_blocks.specs.declared.entries.Held.{Held}
use Rattle.vm_blocks.specs.Spelled.{heap_read, spelled}

-- a heap that is only on the device: it has this size and, if the device is honest, the chunks that these bytes encode
pub record IsHeapRead (good : Type 0) (len : ℕ) (read : List ℕ) (heap : Heap) : Type 0 where
  pub size : heap.size ≡ len
  pub same : good → heap ≡ heap_read len read

-- a listed block that is not in memory: it is not marked, not locked, and only on the device
pub record IsAway (good : Type 0) (read : List ℕ) (e : Held) (listed : VmBlock) : Type 0 where
  pub uid : listed.uid ≡ e.uid
  pub marked : listed.marked ≡ false
  pub locks : listed.block.locks ≡ 0
  pub heap : IsHeapRead good e.len read listed.block.heap

-- the model lists what the table lists: the block in memory if it is there, otherwise the block on the device
abbrev pub IsListedAs : Type 0 → List ℕ → Option Held → Option store.Block → Option VmBlock → Type 0
IsListedAs good read None b listed = listed ≡ None
IsListedAs good read (Some e) (Some b) listed = listed ≡ Some (record { uid = e.uid; marked = e.marked; block = spelled b.locks b.bytes })
IsListedAs good read (Some e) None None = ⊥
IsListedAs good read (Some e) None (Some listed) = IsAway good read e listed

-- a block of the model as the device has it, with this user ID and such a heap
pub record IsStoredBlock (good : Type 0) (read : List ℕ) (e : Entry) (kept : KeptBlock) : Type 0 where
  pub uid : kept.uid ≡ e.uid
  pub heap : IsHeapRead good e.len read kept.heap

-- what the model has on the device is what an entry lists
abbrev pub IsStoredAs : Type 0 → List ℕ → Option Entry → Option KeptBlock → Type 0
IsStoredAs good read None kept = kept ≡ None
IsStoredAs good read (Some e) None = ⊥
IsStoredAs good read (Some e) (Some kept) = IsStoredBlock good read e kept

-- the entry of a handle
abbrev pub entry_at : Directory → ℕ → Option Entry
entry_at d h = find (λ e. e.h == h) d.entries.items

-- a directory of the model is one of the device: it lists the same, with the bytes of these
-- blocks
pub record IsDirectoryOf (good : Type 0) (d : Directory) (blocks : List Block) (directory : model.Directory KeptBlock) : Type 0 where
  pub handles : length directory.blocks ≡ 1024
  pub each : (h : ℕ) → IsHandle h → IsStoredAs good (bytes_of_block blocks h) (entry_at d h) (at_handle None directory.blocks h)
  pub map_block : directory.map_block ≡ d.map_block
  pub map_group : directory.map_group ≡ d.map_item.0
  pub map_item : directory.map_item ≡ d.map_item.1

-- both directories of a pair are
pub record IsPairOf (good : Type 0) (c d : Directory) (from : Pair) (pair : model_file.Pair) : Type 0 where
  pub cur : IsDirectoryOf good c from.cur.blocks pair.cur
  pub saved : IsDirectoryOf good d from.saved.blocks pair.saved

-- The model's directories of an honest device

-- the block of an entry, with these bytes
abbrev pub stored_block : List ℕ → Entry → KeptBlock
stored_block bytes e = record { uid = e.uid; heap = heap_read e.len bytes }

-- a directory with the bytes of these blocks
abbrev pub stored_directory : Directory → List Block → model.Directory KeptBlock
stored_directory d blocks = record {
  blocks = map (λ h. option_map (stored_block (bytes_of_block blocks h)) (entry_at d h)) (range_with_len 1 1024);
  map_block = d.map_block;
  map_group = d.map_item.0;
  map_item = d.map_item.1;
}

-- the model's directory for the contents of an area
abbrev pub stored : Contents → model.Directory KeptBlock
stored c = stored_directory (listed c) c.blocks

-- both directories of a pair
abbrev pub stored_pair : Pair → model_file.Pair
stored_pair p = record { cur = stored p.cur; saved = stored p.saved }
