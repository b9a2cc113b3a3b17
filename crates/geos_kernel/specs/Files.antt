-- What the kernel's calls do to the VM file on its device.
use Rattle.std.specs.Prelude.{◌≡◌, ◌↔◌, ◌⊎◌, ℕ, List, Option, OnErr, OnOk, Result, Err}
use Rattle.geos_terms.specs.Edits.{Edit}
use Rattle.geos_terms.specs.declared.refusal.Refusal.{Refusal}
use Rattle.geos_terms.specs.declared.refusal.Refusal.TheVariants.{Disk, NoRoom}
use Rattle.geos_calls.specs.Effects.{Call}
use Rattle.geos_calls.specs.VmFile.{VmFile}
use Rattle.block_handles.specs.Store.{IsThere}
use Rattle.vm_file.specs.declared.commit.How.{How}
use Rattle.vm_file.specs.declared.error.CommitError.{CommitError}
use Rattle.vm_file.specs.Committing.{CommitsFile}
use Rattle.vm_file.specs.Device.{Medium, Passes, Rose}
use Rattle.vm_file.specs.Outcomes.{ReadsOnly}
use Rattle.vm_file.specs.State.{FileState, Steadily}
use Rattle.vm_blocks.specs.Found.{OpensAsKept}
use Rattle.vm_blocks.specs.Listed.{StoreAfter, directory_of, resident_of}
use Rattle.vm_blocks.specs.Refused.{of_commit}
use Rattle.vm_blocks.specs.View.{vm_slot}
use Rattle.db_items.specs.Groups.{IsGroup}
use Rattle.geos_kernel.specs.Kernel.{Calls, ItemHasNoRoom, StaysIfRefused}
use Rattle.geos_kernel.specs.View.{IsFileOf, KernelOn, file_over}

-- the VM file of a kernel on its device
abbrev pub vm_file_of : {D : Type 0} → KernelOn D → FileState D
vm_file_of k = file_over k.device k.core.vm.file

-- if the program stops now, `open` finds in the file the pair that the model has committed
abbrev pub LeavesKept : {D : Type 0} → Medium D → KernelOn D → Type 0
LeavesKept medium k = (f : VmFile) → IsFileOf (medium.honest k.device) k.core f → medium.honest k.device → (c : List ℕ)
    → medium.may_leave k.device c → OpensAsKept f.kept c

-- if the program stops between the two kernels, `open` finds in the file the committed pair of the one kernel's model
-- or of the other's
abbrev pub Stops : {D : Type 0} → Medium D → KernelOn D → KernelOn D → Type 0
Stops medium old new = medium.honest old.device → (f g : VmFile) → IsFileOf (medium.honest old.device) old.core f
    → IsFileOf (medium.honest old.device) new.core g
    → Passes medium.may_have_left old.device new.device (λ c. OpensAsKept f.kept c ⊎ OpensAsKept g.kept c)

-- what holds of the device between the two kernels: it stays honest; a stop leaves a committed pair; and no call
-- failed on a device that never fails within its length and has room for the file
pub record Between {D : Type 0} (medium : Medium D) (old new : KernelOn D) : Type 0 where
  pub honest : medium.honest new.device ↔ medium.honest old.device
  pub stops : Stops medium old new
  pub steadily : Steadily medium (vm_file_of old) (vm_file_of new)

-- a call that does not use the device, and leaves the committed pair as it was
pub record AsksNothing {D : Type 0} (old new : KernelOn D) : Type 0 where
  pub device : new.device ≡ old.device
  pub file : new.core.vm.file ≡ old.core.vm.file

-- a call that at most reads the device: it writes nothing, and the committed pair is the same. On an honest device
-- the call fails only if the count of failures rose, and otherwise the count is the same
pub record ReadsFile {D : Type 0} (medium : Medium D) (fails : Type 0) (old new : KernelOn D) : Type 0 where
  pub reads : ReadsOnly medium old.device new.device
  pub file : vm_file_of new ≡ file_over new.device old.core.vm.file
  pub cause : medium.honest old.device → fails → Rose (medium.failed old.device) (medium.failed new.device)
  pub counted : (fails → ⊥) → medium.failed new.device ≡ medium.failed old.device
  pub between : Between medium old new

-- a call on a block of the file. If the block is in memory, the call does not use the device, and a refusal for
-- another reason than room leaves all blocks as they were. After a refusal by the device the block is not in memory
pub record InMemory {D A : Type 0} (h : ℕ) (result : Result A Refusal) (old new : KernelOn D) : Type 0 where
  pub there : IsThere old.core.blocks (vm_slot h) → AsksNothing old new × (result ≡ Err Disk → ⊥)
  pub refused : IsThere old.core.blocks (vm_slot h) → StaysIfRefused result old.core.blocks new.core.blocks
  pub absent : result ≡ Err Disk → IsThere new.core.blocks (vm_slot h) → ⊥

-- a call on the items of a group: its result is what its row says. NoRoom occurs only if the group needs more room
-- after the edit. If the group is in memory, the call does not read the device; if there is no group, nothing changes
pub record CallsItem {D A : Type 0} (medium : Medium D) (call : Call A) (edit : List (Option (List ℕ)) → Edit A)
    (g : ℕ) (result : Result A Refusal) (old new : KernelOn D) : Type 0 where
  pub calls : Calls (medium.honest old.device) call result old.core new.core
  pub no_room : result ≡ Err NoRoom → ItemHasNoRoom new.core g edit
  pub in_memory : InMemory g result old new
  pub no_group : (IsGroup old.core.vm g → ⊥) → new ≡ old
  pub device : ReadsFile medium (result ≡ Err Disk) old new

-- a commit of the current directory, with each block as it is in memory, otherwise as the file has it: what it
-- commits, what each refusal leaves on the device and in memory, and what a stop at any moment leaves
pub record Commits {D : Type 0} (medium : Medium D) (how : How) (old new : KernelOn D) (result : Result (Unit {0}) Refusal) : Type 0 where
  pub answer : Result (Unit {0}) CommitError
  pub same : result ≡ of_commit answer
  pub file : CommitsFile medium how (resident_of old.core.blocks) (directory_of old.core.vm old.core.blocks) (vm_file_of old) (vm_file_of new) answer
  pub store : OnOk answer (StoreAfter how old.core.blocks new.core.blocks)
  pub between : Between medium old new
  pub refused : OnErr answer ((new.core.vm ≡ record old.core.vm { file = new.core.vm.file }) × (new.core.blocks ≡ old.core.blocks))
