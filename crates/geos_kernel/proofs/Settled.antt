-- A kernel on whose device nothing was written is a kernel, which sees the same.
use Rattle.std.proofs.Common.{◌≡◌, ◌∙◌, refl, ap, sym, subst}
use Rattle.geos_calls.specs.VmFile.{VmFile}
use Rattle.block_handles.specs.Store.{Store}
use Rattle.vm_file.specs.Contents.{pair_in}
use Rattle.vm_file.specs.Device.{Medium}
use Rattle.vm_file.specs.Noting.{Rests}
use Rattle.vm_file.specs.Reading.{area_of}
use Rattle.vm_file.specs.State.{FileState, pair_of}
use Rattle.vm_blocks.specs.FileOf as vm
use Rattle.vm_blocks.specs.Tied.{IsTied}
use Rattle.vm_blocks.specs.View.{VmState}
use Rattle.vm_blocks.proofs.Brings.{tied-file}
use Rattle.geos_kernel.specs.Kernel.{IsKernel}
use Rattle.geos_kernel.specs.View.{IsFileOf, core_of, vm_over}
use Rattle.geos_kernel.proofs.Seen.{file-known, file-on, file-seen}

module _ {D : Type 0} (medium : Medium D) (v w : VmState D) (s : Store) (same : w ≡ record v { file = record v.file { device = w.file.device } })
    (reads : Rests medium v.file.device w.file.device)
    (failed : medium.failed w.file.device ≡ medium.failed v.file.device) where
  abbrev read_on : FileState D
  read_on = record v.file { device = w.file.device }

  abbrev on : VmState D
  on = record v { file = read_on }

  seen-on : core_of medium on s ≡ core_of medium v s
  seen-on = λ k. record { blocks = s; vm = vm_over (record { image = reads.same k; failed = failed k }) v }

  pair : pair_of medium.image read_on ≡ pair_of medium.image v.file
  pair = ap (λ xs. pair_in v.file.current v.file.saved (area_of xs v.file.area v.file.second)) reads.same

  known-on : (f : VmFile) → vm.IsFileOf medium.image medium.honest v s f → vm.IsFileOf medium.image medium.honest on s f
  known-on f is =
      let seen = file-on (medium.honest v.file.device) (medium.honest w.file.device) reads.was (core_of medium v s) f (file-seen medium v s f is) in
      file-known medium on s f (subst (λ c. IsFileOf (medium.honest w.file.device) c f) (sym seen-on) seen)

  pub settled-kernel : IsKernel medium v s → IsKernel medium w s
  settled-kernel k = subst (λ x. IsKernel medium x s) (sym same) (record {
    laid = k.laid;
    heaps = k.heaps;
    handles = k.handles;
    few = k.few;
    tied = tied-file medium v s read_on refl reads.was (λ good. pair) k.tied;
    known = (k.known.0, known-on k.known.0 k.known.1);
    small = k.small;
  })

  pub settled-core : core_of medium w s ≡ core_of medium v s
  settled-core = ap (λ x. core_of medium x s) same ∙ seen-on
