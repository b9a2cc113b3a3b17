-- The contents of a device in memory, and what a stop leaves of it.
use Rattle.std.specs.Prelude.{◌≡◌, ◌⊎◌, ℕ, ◌+◌, ◌<◌, List, length, Result, OnErr, OnOk}
use Rattle.lmem_raw.specs.Bytes.{part, with_part}
use Rattle.vm_file.specs.Device.{Counts, Medium}
use Rattle.vm_file.specs.declared.device.Disk.{Disk}
use Rattle.vm_file.specs.declared.memory.MemoryDevice.{MemoryDevice}

-- its bytes
abbrev pub bytes_of : MemoryDevice → List ℕ
bytes_of device = device.bytes.items

-- how often it has failed
abbrev pub failures_of : MemoryDevice → ℕ
failures_of device = device.failures

-- it returns what was last written, always
abbrev pub IsHonest : MemoryDevice → Type 0
IsHonest device = Unit {0}

-- a stop leaves its bytes
abbrev pub MayLeave : MemoryDevice → List ℕ → Type 0
MayLeave device image = image ≡ bytes_of device

-- a stop within a call leaves the bytes before the call or the bytes after it
abbrev pub MayHaveLeft : MemoryDevice → MemoryDevice → List ℕ → Type 0
MayHaveLeft start device image = (image ≡ bytes_of start) ⊎ (image ≡ bytes_of device)

-- a read returns the bytes at the offset; it fails only beyond the length
pub record Reads (old : MemoryDevice) (at : ℕ) (bytes : List ℕ) (result : Result (Unit {0}) Disk) (new : MemoryDevice) : Type 0 where
  pub gives : OnOk result (bytes ≡ part (bytes_of old) at (length bytes))
  pub past : OnErr result (length (bytes_of old) < at + length bytes)
  pub same : bytes_of new ≡ bytes_of old
  pub counts : Counts (failures_of old) (failures_of new) result

-- a write replaces the bytes at the offset; it fails only beyond the length
pub record Writes (old : MemoryDevice) (at : ℕ) (bytes : List ℕ) (result : Result (Unit {0}) Disk) (new : MemoryDevice) : Type 0 where
  pub written : OnOk result (bytes_of new ≡ with_part (bytes_of old) at bytes)
  pub past : OnErr result ((length (bytes_of old) < at + length bytes) × (bytes_of new ≡ bytes_of old))
  pub counts : Counts (failures_of old) (failures_of new) result

-- a sync does nothing, and never fails
pub record Syncs (old : MemoryDevice) (result : Result (Unit {0}) Disk) (new : MemoryDevice) : Type 0 where
  pub never : OnErr result ⊥
  pub same : new ≡ old

-- the memory device as a medium
abbrev pub medium : Medium MemoryDevice
medium = record {
  image = bytes_of;
  honest = IsHonest;
  failed = failures_of;
  may_leave = MayLeave;
  may_have_left =
      MayHaveLeft;
  reads = Reads;
  writes = Writes;
  syncs = Syncs;
}
