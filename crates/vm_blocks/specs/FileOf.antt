-- How a VM file, with some of its blocks in memory, is related to the model's file. The model's file is not a function
-- of the state: if a block is only on a device that is not honest, its contents are unknown. So the model's file is a
-- witness that each call passes on.
use Rattle.std.specs.Prelude.{◌≡◌, ℕ, true, false, List, length, map, take, None}
use Rattle.geos_calls.specs.Directories.{VmBlock}
use Rattle.geos_calls.specs.Directories as model
use Rattle.geos_calls.specs.Handles.{at_handle}
use Rattle.geos_calls.specs.Legal.{IsFile}
use Rattle.geos_calls.specs.Memory.{Memory}
use Rattle.geos_calls.specs.VmFile.{Kept, Sure, Unsure, VmFile}
use Rattle.block_handles.specs.Names.{IsHandle}
use Rattle.block_handles.specs.Store.{Store, block_at}
use Rattle.vm_file.specs.Device.{Medium}
use Rattle.vm_file.specs.Kept.{other_pair}
use Rattle.vm_file.specs.State.{FileState, pair_of}
use Rattle.vm_blocks.specs.View.{VmState, bytes_read, held_at, vm_slot}
use Rattle.vm_blocks.specs.Spelled.{block_in}
use Rattle.vm_blocks.specs.Matches.{IsListedAs, IsDirectoryOf, IsPairOf, stored_pair}

-- the model's current directory lists under each handle what the file lists, and has the same maps
pub record IsCurrentOf {D : Type 0} (image : D → List ℕ) (honest : D → Type 0) (v : VmState D) (s : Store)
    (cur : model.Directory VmBlock) : Type 0 where
  pub handles : length cur.blocks ≡ 1024
  pub each : (h : ℕ) → IsHandle h → IsListedAs (honest v.file.device) (bytes_read image v.file h) (held_at v h)
      (block_at s (vm_slot h)) (at_handle None cur.blocks h)
  pub map_block : cur.map_block ≡ v.map_block
  pub map_group : cur.map_group ≡ v.map_item.0
  pub map_item : cur.map_item ≡ v.map_item.1

-- the model's committed pair is the pair in the selected area; if the file is unsure, also the pair in the other area
abbrev pub IsKeptOf : {D : Type 0} → (D → List ℕ) → (D → Type 0) → FileState D → Kept → Type 0
IsKeptOf image honest f (Sure p) = (f.sure ≡ true) × IsPairOf (honest f.device) f.current f.saved (pair_of image f) p
IsKeptOf image honest f (Unsure p q) = (f.sure ≡ false) × IsPairOf (honest f.device) f.current f.saved (pair_of image f) p
    × (honest f.device → q ≡ stored_pair (other_pair image f))

-- the model's VM file, a legal one
pub record IsFileOf {D : Type 0} (image : D → List ℕ) (honest : D → Type 0) (v : VmState D) (s : Store) (f : VmFile) : Type 0 where
  pub area : f.area ≡ v.file.area
  pub cur : IsCurrentOf image honest v s f.cur
  pub saved : IsDirectoryOf (honest v.file.device) v.file.saved (pair_of image v.file).saved.blocks f.saved
  pub kept : IsKeptOf image honest v.file f.kept
  pub legal : IsFile f

-- the model's memory: what the slots of global memory encode, together with such a file
pub record IsMemoryOf {D : Type 0} (medium : Medium D) (v : VmState D) (s : Store) (m : Memory) : Type 0 where
  pub blocks : m.blocks ≡ map block_in (take 1024 s.blocks)
  pub file : IsFileOf medium.image medium.honest v s m.file
  pub region : m.region ≡ s.len.most
  pub handles : m.handles ≡ s.len.handles
