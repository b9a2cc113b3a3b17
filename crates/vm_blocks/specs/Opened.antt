-- The model's file for a file that was opened, with no block in memory.
use Rattle.std.specs.Prelude.{ℕ, ◌<◌, List, All, map, take, if◌then◌else◌}
use Rattle.geos_calls.specs.Directories.{idle_block, with_each}
use Rattle.geos_calls.specs.Memory.{Memory}
use Rattle.geos_calls.specs.VmFile.{Kept, Pair, Sure, Unsure, VmFile}
use Rattle.block_handles.specs.Store.{Store}
use Rattle.vm_file.specs.declared.directory.Directory.{Directory}
use Rattle.vm_file.specs.Kept.{other_pair}
use Rattle.vm_file.specs.State.{FileState, pair_of}
use Rattle.vm_blocks.specs.Matches.{stored_directory, stored_pair}
use Rattle.vm_blocks.specs.Spelled.{block_in}

-- the user IDs of a directory, and its map item, are words
pub record AreWords (d : Directory) : Type 0 where
  pub uids : All (λ e. e.uid < 65536) d.entries.items
  pub item : d.map_item.1 < 65536

-- the pair of the area that is read
abbrev pub opened_pair : {D : Type 0} → (D → List ℕ) → FileState D → Pair
opened_pair image f = record {
  cur = stored_directory f.current (pair_of image f).cur.blocks;
  saved =
      stored_directory f.saved (pair_of image f).saved.blocks;
}

-- what the device has: the selected pair; if the file is unsure, also the pair of the other area
abbrev pub opened_kept : {D : Type 0} → (D → List ℕ) → FileState D → Kept
opened_kept image f = if f.sure then Sure (opened_pair image f) else Unsure (opened_pair image f) (stored_pair (other_pair image f))

-- the file: each block as the device has it, neither marked nor locked
abbrev pub opened_file : {D : Type 0} → (D → List ℕ) → FileState D → VmFile
opened_file image f = let pair = opened_pair image f in
    record { cur = with_each idle_block pair.cur; saved = pair.saved; kept = opened_kept image f; area = f.area }

-- memory with that file and with what the slots of global memory encode
abbrev pub opened_memory : {D : Type 0} → (D → List ℕ) → FileState D → Store → Memory
opened_memory image f s = record { blocks = map block_in (take 1024 s.blocks); file = opened_file image f; region = s.len.most; handles = s.len.handles }
