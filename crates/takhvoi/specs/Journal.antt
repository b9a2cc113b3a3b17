-- What C learns of the journal, and the results of commits.
use Rattle.std.specs.Prelude.{◌≡◌, ◌<◌, ◌+◌, ◌⊎◌, ℕ, false, true, List, [], length, Option, Some, None, slice_get}
use Rattle.lmem_raw.specs.Bytes.{part}
use Rattle.vm_file.specs.declared.commit.How.{How}
use Rattle.vm_blocks.specs.ListedCalls.{keeper_of}
use Rattle.geos_calls.specs.VmCalls.{commit}
use Rattle.geos_calls.specs.VmFile.{VmFile}
use Rattle.vm_blocks.specs.Found.{OpensAsKept}
use Rattle.geos_kernel.specs.Files.{Between}
use Rattle.geos_kernel.specs.View.{IsFileOf, KernelOn}
use Rattle.host_device.specs.Journal.{LeavesSince, Settles, bytes_of, journal_of, medium, performed, steps_of}
use Rattle.host_device.specs.declared.device.HostDevice.{HostDevice}
use Rattle.host_device.specs.Notes.{Note, Write, Sync}
use Rattle.takhvoi.specs.Answers.{IsReply}
use Rattle.takhvoi.specs.declared.system.System.{System}

-- the numbers of a step: 1 for a write, with its offset and its length; 2 for a sync; and 0 for none
abbrev pub IsStep : Option Note → ℕ → ℕ → ℕ → Type 0
IsStep None kind at len = kind ≡ 0
IsStep (Some (Write from stood bytes)) kind at len = (kind ≡ 1) × (at ≡ from) × (len ≡ length bytes)
IsStep (Some Sync) kind at len = kind ≡ 2

-- these are bytes of a step that is a write, from one of them on
abbrev pub HasBytes : Option Note → ℕ → List ℕ → Type 0
HasBytes (Some (Write at stood bytes)) from part_of = part_of ≡ part bytes from (length part_of)
HasBytes step from part_of = ⊥

-- the step is no write, or has fewer bytes from one of them on
abbrev pub LacksBytes : Option Note → ℕ → ℕ → Type 0
LacksBytes (Some (Write at stood bytes)) from n = length bytes < from + n
LacksBytes step from n = Unit {0}

-- the step of the journal with a number
abbrev pub step_at : System → ℕ → Option Note
step_at system n = slice_get (journal_of system.kernel.device) n

-- 105: the step with a number does not have these bytes
abbrev pub NoSuchBytes : ℕ → ℕ → ℕ → ℕ → System → Type 0
NoSuchBytes number from n status s = (status ≡ 105) × LacksBytes (step_at s number) from n

-- there are no notes, and nothing else has changed
pub record IsSettled (status : ℕ) (old new : System) : Type 0 where
  pub done : status ≡ 0
  pub core : new.kernel.core ≡ old.kernel.core
  pub device : Settles old.kernel.device new.kernel.device

-- the notes, performed on the host's bytes, result in the device's bytes
abbrev pub Leads : List ℕ → HostDevice → Type 0
Leads host device = performed host (steps_of device) ≡ bytes_of device

-- a host that had performed every earlier note, and stops while it performs these, may have these bytes
abbrev pub MayStopAt : HostDevice → List ℕ → Type 0
MayStopAt device c = LeavesSince (bytes_of device) (length (steps_of device)) (steps_of device) c

-- a commit on the file of a host that had performed every note: the notes result in the device's bytes; and if the host stops meanwhile, the
-- file opens as what was committed before or after
pub record IsNoted (old new : KernelOn HostDevice) : Type 0 where
  pub leads : Leads (bytes_of old.device) new.device
  pub stops : (f g : VmFile) → IsFileOf (Unit {0}) old.core f → IsFileOf (Unit {0}) new.core g → (c : List ℕ) → MayStopAt new.device c
      → OpensAsKept f.kept c ⊎ OpensAsKept g.kept c
  pub between : Between medium old new

-- the commit's reply is that of its row, and nothing was noted before. Its notes are for the host; without a host they are forgotten
abbrev pub HasCommitted : How → ℕ → System → System → Type 0
HasCommitted how status old new = IsReply (commit (keeper_of how)) status old new × (journal_of old.kernel.device ≡ [])
    × (old.hosted ≡ true → IsNoted old.kernel new.kernel) × (old.hosted ≡ false → journal_of new.kernel.device ≡ [])

-- 13: the allocator refused memory before the commit began
abbrev pub IsUnbegun : ℕ → System → System → Type 0
IsUnbegun status old new = (status ≡ 13) × (new.kernel ≡ old.kernel)

-- the commit was performed, or did not begin
abbrev pub IsCommitted : How → ℕ → System → System → Type 0
IsCommitted how status old new = HasCommitted how status old new ⊎ IsUnbegun status old new
