-- Limits on what blocks may take change nothing else.
use Rattle.std.proofs.Common.{ℕ, List}
use Rattle.block_handles.specs.declared.arena.Limits.{Limits}
use Rattle.block_handles.specs.Change.{with_limits}
use Rattle.block_handles.specs.Store.{Store}
use Rattle.block_handles.proofs.Layouts.{laid-limits}
use Rattle.geos_calls.specs.VmFile.{VmFile}
use Rattle.vm_file.specs.Device.{Medium}
use Rattle.vm_blocks.specs.FileOf as vm
use Rattle.vm_blocks.specs.View.{VmState}
use Rattle.geos_kernel.specs.Kernel.{IsKernel}

-- the model's file is the same
pub file-limited : {D : Type 0} (image : D → List ℕ) (honest : D → Type 0) (v : VmState D) (s : Store) (limits : Limits) (f : VmFile)
    → vm.IsFileOf image honest v s f → vm.IsFileOf image honest v (with_limits s limits) f
file-limited image honest v s limits f is = record {
  area = is.area;
  cur = record {
    handles = is.cur.handles;
    each = is.cur.each;
    map_block = is.cur.map_block;
    map_group = is.cur.map_group;
    map_item = is.cur.map_item;
  };
  saved = is.saved;
  kept = is.kept;
  legal = is.legal;
}

-- and a kernel is one still
pub kernel-limited : {D : Type 0} (medium : Medium D) (v : VmState D) (s : Store) (limits : Limits) → IsKernel medium v s
    → IsKernel medium v (with_limits s limits)
kernel-limited medium v s limits k = record {
  laid = laid-limits s limits k.laid;
  heaps = k.heaps;
  handles = k.handles;
  few = k.few;
  tied = record { laid = laid-limits s limits k.tied.laid; long = k.tied.long; each = k.tied.each; maps = k.tied.maps };
  known = (k.known.0, file-limited medium.image medium.honest v s limits k.known.0 k.known.1);
  small = k.small;
}
