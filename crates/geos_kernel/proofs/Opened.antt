-- The model's VM file of a kernel without a block.
use Rattle.std.proofs.Common.{◌≡◌, ℕ, ◌<◌, ◌≤◌, List, length, length-take, map, take, replicate, Option, None, true, refl, sym, ap, ◌∙◌, subst, arith}
use Rattle.std.proofs.lemmas.List.{ext_get_or, get_or-map, get_or-replicate, get_or-take, length-map, length-replicate}
use Rattle.geos_calls.specs.Blocks.{Block as ModelBlock}
use Rattle.geos_calls.specs.Directories.{KeptBlock, VmBlock, no_directory}
use Rattle.geos_calls.specs.Handles.{at_handle}
use Rattle.geos_calls.specs.Memory.{Memory}
use Rattle.geos_calls.specs.VmFile.{VmFile, empty_file}
use Rattle.geos_calls.proofs.LegalDirectories.{empty_file-legal, none-listed}
use Rattle.block_handles.specs.Layout.{IsEmpty}
use Rattle.block_handles.specs.Names.{slot_of}
use Rattle.block_handles.specs.Store.{Store, block_at, IsBlock, locks_in}
use Rattle.vm_file.specs.Device.{Medium}
use Rattle.vm_file.specs.declared.directory.Directory.{Directory}
use Rattle.vm_file.specs.Contents.{Block, listed}
use Rattle.vm_file.specs.Spelling.{empty_contents}
use Rattle.vm_file.specs.State.{pair_of}
use Rattle.vm_blocks.specs.Listed.{IsListOf}
use Rattle.vm_blocks.specs.Matches.{IsDirectoryOf, IsListedAs}
use Rattle.vm_blocks.specs.Spelled.{block_in}
use Rattle.vm_blocks.specs.Tied.{IsTied, NoneResident}
use Rattle.vm_blocks.specs.View.{VmState, bytes_read, vm_slot}
use Rattle.vm_blocks.specs.FileOf.{IsMemoryOf}
use Rattle.geos_kernel.specs.View.{KernelState, IsFileOf, image_seen, memory_of}
use Rattle.geos_kernel.specs.Kernel.{IsKernel}

-- No block in the region

module _ (s : Store) (len : ℕ) (empty : IsEmpty s len) where
  no-blocks : map block_in (take 1024 s.blocks) ≡ replicate {A = Option ModelBlock} 1024 None
  no-blocks =
      let long : length (map block_in (take 1024 s.blocks)) ≡ 1024 =
      omega (arith, length-map (take 1024 s.blocks) block_in, length-take 1024 s.blocks, empty.laid.slots) in
      ext_get_or None (map block_in (take 1024 s.blocks)) (replicate {A = Option ModelBlock} 1024 None)
      (long ∙ sym (length-replicate {A = Option ModelBlock} 1024 None))
      (λ i lt. (let less : i < 1024 = omega (arith, lt, long) in
      get_or-map block_in (take 1024 s.blocks) i None None (omega (arith, less, length-take 1024 s.blocks, empty.laid.slots))
      ∙ ap block_in (get_or-take 1024 s.blocks i None less) ∙ ap block_in (empty.none i)
      ∙ sym (get_or-replicate {A = Option ModelBlock} 1024 i None None less)))

  -- then there is none in memory
  pub empty-memory : (core : KernelState) → core.blocks ≡ s → (f : VmFile)
      → memory_of core f ≡ record { blocks = replicate 1024 None; file = f; region = len; handles = 1024 }
  empty-memory core is f =
      let blocks = ap (λ (t : Store). map block_in (take 1024 t.blocks)) is ∙ no-blocks in
      let region = ap (λ (t : Store). t.len.most) is ∙ ap (λ l. l.most) empty.long in
      let handles = ap (λ (t : Store). t.len.handles) is ∙ ap (λ l. l.handles) empty.long in
      λ k. record { blocks = blocks k; file = f; region = region k; handles = handles k }

  -- a kernel begins, and the model knows the file as the device holds it
  pub kernel-opened : {D : Type 0} (medium : Medium D) (v : VmState D) (m : Memory) → len ≤ 16777216 → IsTied medium v s
      → IsMemoryOf medium v s m → IsKernel medium v s
  kernel-opened medium v m most tied begun = record {
    laid = empty.laid;
    heaps = λ name there. absurd (subst IsBlock (empty.none (slot_of name)) there);
    handles = λ name there. absurd (subst IsBlock (empty.none (slot_of name)) there);
    few = λ name. omega (arith, ap locks_in (empty.none (slot_of name)));
    tied = tied;
    known = (m.file, begun.file);
    small = omega (arith, ap (λ l. l.region) empty.long, most);
  }

-- A new file

-- a directory of a new file lists nothing
nothing-listed : (good : Type 0) (blocks : List Block) → IsDirectoryOf good (listed empty_contents) blocks no_directory
nothing-listed good blocks = record {
  handles = length-replicate {A = Option KeptBlock} 1024 None;
  each = λ h p. none-listed h;
  map_block = refl;
  map_group = refl;
  map_item = refl;
}

-- the model's file lists nothing, too
pub file-begun : (good : Type 0) (core : KernelState) (area : ℕ) → core.vm.file.area ≡ area → core.vm.file.sure ≡ true
    → core.vm.file.current ≡ listed empty_contents → core.vm.file.saved ≡ listed empty_contents → IsListOf core.vm (listed empty_contents)
    → NoneResident core.blocks → IsFileOf good core (empty_file area)
file-begun good core area long sure cur saved lists none =
    let from = pair_of image_seen core.vm.file in
    let one : IsDirectoryOf good core.vm.file.current from.cur.blocks no_directory =
    subst (λ (d : Directory). IsDirectoryOf good d from.cur.blocks no_directory) (sym cur) (nothing-listed good from.cur.blocks) in
    let two : IsDirectoryOf good core.vm.file.saved from.saved.blocks no_directory =
    subst (λ (d : Directory). IsDirectoryOf good d from.saved.blocks no_directory) (sym saved) (nothing-listed good from.saved.blocks) in
    record {
      area = sym long;
      cur = record {
        handles = length-replicate {A = Option VmBlock} 1024 None;
        each = λ h p.
            subst (λ e. IsListedAs good (bytes_read image_seen core.vm.file h) e (block_at core.blocks (vm_slot h))
            (at_handle None (replicate {A = Option VmBlock} 1024 None) h)) (sym (lists.each h p)) (none-listed h);
        map_block = sym lists.map_block;
        map_group = sym (ap (λ (i : ℕ × ℕ). i.0) lists.map_item);
        map_item = sym (ap (λ (i : ℕ × ℕ). i.1) lists.map_item);
      };
      saved = two;
      kept = (sure, record { cur = one; saved = two });
      legal = empty_file-legal area;
    }
