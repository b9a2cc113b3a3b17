-- What holds of the device over a call, and what a stop leaves at any moment of it.
use Rattle.std.proofs.Common.{◌≡◌, ℕ, List, length, refl, ap, sym, subst, inl, inr, ⊎_elim, arith}
use Rattle.std.specs.Prelude.{◌⊎◌, ◌↔◌}
use Rattle.geos_calls.specs.Memory.{Memory}
use Rattle.geos_calls.specs.VmFile.{VmFile}
use Rattle.block_handles.specs.Store.{Store}
use Rattle.vm_file.specs.Committing.{FindsEither}
use Rattle.vm_file.specs.Device.{Medium, Passes}
use Rattle.vm_file.specs.Outcomes.{ReadsOnly}
use Rattle.vm_file.specs.State.{FileState, Finds, Steadily}
use Rattle.vm_file.proofs.Moments.{reads_none, weaker}
use Rattle.vm_blocks.specs.FileOf.{IsMemoryOf}
use Rattle.vm_blocks.specs.Found.{OpensAsKept}
use Rattle.vm_blocks.specs.View.{VmState}
use Rattle.geos_kernel.specs.Files.{AsksNothing, Between, LeavesKept, ReadsFile, vm_file_of}
use Rattle.geos_kernel.specs.Kernel.{LeavesVm}
use Rattle.geos_kernel.specs.View.{IsFileOf, KernelOn, Seen, core_of, kernel_of, memory_of}
use Rattle.geos_kernel.proofs.Seen.{file-on, memory-known}

-- what `open` finds of the file's committed pair is the model's committed pair
abbrev pub FindsKept : {D : Type 0} → Medium D → KernelOn D → Type 0
FindsKept medium k = (f : VmFile) → IsFileOf (medium.honest k.device) k.core f → medium.honest k.device → (c : List ℕ)
    → Finds medium.image (vm_file_of k) c → OpensAsKept f.kept c

module _ {D : Type 0} (medium : Medium D) (v : VmState D) (s : Store) where
  -- so it is where it is so of blocks of a file
  pub leaves-kept : ((s : Store) (m : Memory) → IsMemoryOf medium v s m → medium.honest v.file.device → (c : List ℕ)
      → medium.may_leave v.file.device c → OpensAsKept m.file.kept c)
      → LeavesKept medium (kernel_of medium v s)
  leaves-kept kept f is good c left = kept s (memory_of (core_of medium v s) f) (memory-known medium v s f is) good c left

  pub finds-kept : ((s : Store) (m : Memory) → IsMemoryOf medium v s m → medium.honest v.file.device → (c : List ℕ)
      → Finds medium.image v.file c → OpensAsKept m.file.kept c)
      → FindsKept medium (kernel_of medium v s)
  finds-kept found f is good c finds = found s (memory_of (core_of medium v s) f) (memory-known medium v s f is) good c finds

module _ {D : Type 0} (medium : Medium D) (old new : KernelOn D) where
  -- what holds of the device from the one to the other: a call asked it nothing
  between-still : new.device ≡ old.device → new.core.vm.file ≡ old.core.vm.file → Between medium old new
  between-still same file = record {
    honest = subst (λ d. medium.honest d ↔ medium.honest old.device) (sym same) ((λ h. h), (λ h. h));
    stops = λ good f g is now s c left. inl (subst (λ d. medium.may_have_left s d c) same left);
    steadily = λ steady room. (
      (let area = ap (λ (f : FileState Seen). f.area) file in let long = ap (λ d. length (medium.image d)) same in omega (arith, room, area, long)),
      ap medium.failed same,
    );
  }

  pub between-asking : AsksNothing old new → Between medium old new
  between-asking asks = between-still asks.device asks.file

  pub between-leaving : LeavesVm old new → Between medium old new
  between-leaving leaves = between-still leaves.device (ap (λ (v : VmState Seen). v.file) leaves.vm)

  -- one read it at most
  pub between-reading : ReadsOnly medium old.device new.device → LeavesKept medium old → Steadily medium (vm_file_of old) (vm_file_of new)
      → Between medium old new
  between-reading reads known steadily = record {
    honest = (reads.was, reads.stays);
    stops = λ good f g is now. weaker medium.may_have_left old.device new.device _ _ (λ c left. inl (known f is good c left)) (reads.time good);
    steadily = steadily;
  }

  -- one committed
  pub between-keeping : (medium.honest old.device → Passes medium.may_have_left old.device new.device
      (FindsEither medium.image (vm_file_of old) (vm_file_of new)))
      → (medium.honest old.device → medium.honest new.device) → (medium.honest new.device → medium.honest old.device)
      → FindsKept medium old → FindsKept medium new
      → Steadily medium (vm_file_of old) (vm_file_of new) → Between medium old new
  between-keeping either stays was before after steadily = record {
    honest = (was, stays);
    stops = λ good f g is now.
        weaker medium.may_have_left old.device new.device _ _
        (λ c found. ⊎_elim (λ old_one. inl (before f is good c old_one))
        (λ new_one. inr (after g (file-on (medium.honest old.device) (medium.honest new.device) was new.core g now) (stays good) c new_one)) found)
        (either good);
    steadily = steadily;
  }

-- the device was not used
pub between-same : {D : Type 0} (medium : Medium D) (k : KernelOn D) → Between medium k k
between-same medium k = between-still medium k k refl refl

pub reads-nothing : {D : Type 0} (medium : Medium D) (fails : Type 0) (k : KernelOn D) → (fails → ⊥) → ReadsFile medium fails k k
reads-nothing medium fails k never = record {
  reads = reads_none medium k.device;
  file = refl;
  cause = λ good failed. absurd (never failed);
  counted = λ other. refl;
  between = between-same medium k;
}
