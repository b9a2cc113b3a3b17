-- How a kernel begins.
use Rattle.std.specs.Prelude.{◌≡◌, ◌<◌, ◌⊎◌, ℕ, ◌+◌, ◌*◌, Bool, false, true, [], Ok, List, replicate}
use Rattle.block_handles.specs.Layout.{IsEmpty}
use Rattle.geos_calls.specs.VmFile.{empty_file}
use Rattle.vm_file.specs.Reading.{file_at, is_area}
use Rattle.vm_file.specs.State.{FileState, file_of}
use Rattle.vm_blocks.specs.Listed.{IsListOf}
use Rattle.vm_blocks.specs.Opened.{opened_file}
use Rattle.geos_kernel.specs.View.{IsFileOf, KernelState}
use Rattle.host_device.specs.Journal.{bytes_of, journal_of}
use Rattle.host_device.specs.declared.device.HostDevice.{HostDevice}
use Rattle.takhvoi.specs.declared.system.System.{System}
use Rattle.takhvoi.specs.Journal.{Leads}

-- a kernel with no block, in a region of so many bytes, on this VM file: the model has what the file has committed
pub record Began (file : FileState HostDevice) (region : ℕ) (s : KernelState) : Type 0 where
  pub area : s.vm.file.area ≡ file.area
  pub sure : s.vm.file.sure ≡ file.sure
  pub current : s.vm.file.current ≡ file.current
  pub saved : s.vm.file.saved ≡ file.saved
  pub lists : IsListOf s.vm file.current
  pub store : IsEmpty s.blocks region
  pub tied : IsFileOf (Unit {0}) s (opened_file bytes_of file)

-- a kernel with no block and no image, in a region of so many bytes: the model has the VM file that these bytes encode, and a host with these
-- bytes performs the notes
pub record IsOpened (bytes : List ℕ) (region : ℕ) (system : System) : Type 0 where
  pub file : FileState HostDevice
  pub spelled : file_at bytes ≡ Ok (file_of bytes_of file)
  pub began : Began file region system.kernel.core
  pub hosts : system.hosted ≡ true
  pub images : system.images.items ≡ []
  pub leads : Leads bytes system.kernel.device
  pub holds : bytes_of system.kernel.device ≡ bytes

-- a kernel with no block and no image, in a region of so many bytes: the model has a new VM file with areas of so many. The notes make this
-- file of a host's zeros; without a host they are forgotten
pub record IsNew (area region : ℕ) (hosted : Bool) (system : System) : Type 0 where
  pub tied : IsFileOf (Unit {0}) system.kernel.core (empty_file area)
  pub store : IsEmpty system.kernel.core.blocks region
  pub hosts : system.hosted ≡ hosted
  pub images : system.images.items ≡ []
  pub leads : hosted ≡ true → Leads (replicate (1024 + 2 * area) 0) system.kernel.device
  pub alone : hosted ≡ false → journal_of system.kernel.device ≡ []

-- a region may not have so many bytes
abbrev pub IsNoRegion : ℕ → Type 0
IsNoRegion region = (region < 65536) ⊎ (16777216 < region)

-- 0; 104, if the handle has a kernel; or 111
abbrev pub IsStarted : ℕ → ℕ → Type 0
IsStarted live status = (status ≡ 0) ⊎ (((status ≡ 104) × (live ≡ 0 → ⊥)) ⊎ (status ≡ 111))

-- the same, or 105, if a size is past its limits
abbrev pub IsMade : ℕ → ℕ → ℕ → ℕ → Type 0
IsMade live area region status = ((status ≡ 105) × ((is_area area ≡ false) ⊎ IsNoRegion region)) ⊎ IsStarted live status
