-- What is known of a device on a file of the system. No contract can
-- describe what such a file returns, so nothing is claimed of its bytes.
use Rattle.std.specs.Prelude.{◌≡◌, ℕ, Bool, true, false, List, replicate, Result, OnErr, OnOk}
use Rattle.vm_file.specs.Device.{Counts, Medium}
use Rattle.vm_file.specs.declared.device.Disk.{Disk}
use Rattle.vm_file.specs.declared.disk_file.FileDevice.{FileDevice}

-- its length in bytes
abbrev pub len_of : FileDevice → ℕ
len_of device = device.len

-- how often it has failed
abbrev pub failures_of : FileDevice → ℕ
failures_of device = device.failures

-- whether a sync has failed, and no write has succeeded since
abbrev pub may_lack : FileDevice → Bool
may_lack device = device.may_lack

-- so many zeros: only the length matters, because this device is never honest
abbrev pub bytes_of : FileDevice → List ℕ
bytes_of device = replicate (len_of device) 0

-- it is not known to return what was last written
abbrev pub IsHonest : FileDevice → Type 0
IsHonest device = ⊥

-- a stop may leave anything
abbrev pub MayLeave : FileDevice → List ℕ → Type 0
MayLeave device image = Unit {0}

-- also one within a call
abbrev pub MayHaveLeft : FileDevice → FileDevice → List ℕ → Type 0
MayHaveLeft start device image = Unit {0}

-- a read may return any bytes
pub record Reads (old : FileDevice) (at : ℕ) (bytes : List ℕ) (result : Result (Unit {0}) Disk) (new : FileDevice) : Type 0 where
  pub counts : Counts (failures_of old) (failures_of new) result
  pub lacks : may_lack new ≡ may_lack old

-- a write that succeeds lets syncs succeed again
pub record Writes (old : FileDevice) (at : ℕ) (bytes : List ℕ) (result : Result (Unit {0}) Disk) (new : FileDevice) : Type 0 where
  pub counts : Counts (failures_of old) (failures_of new) result
  pub written : OnOk result (may_lack new ≡ false)
  pub refused : OnErr result (may_lack new ≡ may_lack old)

-- a sync fails if an earlier one failed and nothing was written since
pub record Syncs (old : FileDevice) (result : Result (Unit {0}) Disk) (new : FileDevice) : Type 0 where
  pub counts : Counts (failures_of old) (failures_of new) result
  pub synced : OnOk result ((may_lack old ≡ false) × (may_lack new ≡ false))
  pub refused : OnErr result (may_lack new ≡ true)

-- the device on a file as a medium
abbrev pub medium : Medium FileDevice
medium = record {
  image = bytes_of;
  honest = IsHonest;
  failed = failures_of;
  may_leave = MayLeave;
  may_have_left =
      MayHaveLeft;
  reads = Reads;
  writes = Writes;
  syncs = Syncs;
}
