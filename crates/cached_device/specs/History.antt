-- The contents of a device with a cache, and what a stop leaves of it.
use Rattle.std.specs.Prelude.{◌≡◌, ◌⊎◌, ℕ, zero, suc, ◌-◌, List, [], ◌∷◌, Vec, length, reverse, refl, Result, OnOk}
use Rattle.std.specs.Global.{Global}
use Rattle.std.proofs.Common.{inl, inr, subst}
use Rattle.std.proofs.Math.Nat.{sub_self}
use Rattle.lmem_raw.specs.Bytes.{part, with_part}
use Rattle.vm_file.specs.Device.{AfterWrite, Medium}
use Rattle.vm_file.specs.declared.device.Disk.{Disk}
use Rattle.vm_file.specs.Memory as memory
use Rattle.cached_device.specs.declared.device.CachedDevice.{CachedDevice}
use Rattle.cached_device.specs.declared.event.Event.{Event}
use Rattle.cached_device.specs.declared.event.Event.TheVariants.{Written, Synced}

-- what a stop may leave after these events, the last event first, starting from durable
-- bytes: the bytes of the last sync, with any bytes in each range that was written since
abbrev pub Leaves : List ℕ → List Event → List ℕ → Type 0
Leaves start [] c = c ≡ start
Leaves start (Written at n ∷ before) c = AfterWrite at n (Leaves start before) c
Leaves start (Synced bytes ∷ before) c = c ≡ bytes.items

-- the same before the last so many of these events, or after one of them
abbrev pub LeavesSince : List ℕ → ℕ → List Event → List ℕ → Type 0
LeavesSince start (suc count) (event ∷ before) c = Leaves start (event ∷ before) c ⊎ LeavesSince start count before c
LeavesSince start count events c = Leaves start events c

-- what reads return
abbrev pub bytes_of : CachedDevice → List ℕ
bytes_of device = memory.bytes_of device.cache

-- how often it has failed
abbrev pub failures_of : CachedDevice → ℕ
failures_of device = device.failures

-- what happened, the last event first
abbrev pub events_of : CachedDevice → List Event
events_of device = reverse device.events.items

-- a device on which nothing happened
pub record IsStill (old new : CachedDevice) : Type 0 where
  pub bytes : bytes_of new ≡ bytes_of old
  pub start : new.start.items ≡ old.start.items
  pub events : events_of new ≡ events_of old

-- a device to which this happened as well, and no more
pub record Happens (event : Event) (old new : CachedDevice) : Type 0 where
  pub start : new.start.items ≡ old.start.items
  pub events : events_of new ≡ event ∷ events_of old

-- a sync made durable what reads return
pub record Syncs (old new : CachedDevice) : Type 0 where
  pub bytes : Vec ℕ Global
  pub all : bytes.items ≡ bytes_of old
  pub happens : Happens (Synced bytes) old new

-- it returns what was last written, always
abbrev pub IsHonest : CachedDevice → Type 0
IsHonest device = Unit {0}

-- a stop now leaves what reads return, or what the events may leave
abbrev pub MayLeave : CachedDevice → List ℕ → Type 0
MayLeave device c = (c ≡ bytes_of device) ⊎ Leaves device.start.items (events_of device) c

-- a stop since an earlier state left what reads return, or what the events could leave at some moment since
abbrev pub MayHaveLeft : CachedDevice → CachedDevice → List ℕ → Type 0
MayHaveLeft start device c =
    (c ≡ bytes_of device) ⊎ LeavesSince device.start.items (length (events_of device) - length (events_of start)) (events_of device) c

-- a read returns the bytes at the offset
abbrev pub MayRead : CachedDevice → ℕ → List ℕ → Result (Unit {0}) Disk → CachedDevice → Type 0
MayRead old at bytes result new = OnOk result (bytes ≡ part (bytes_of old) at (length bytes)) × (bytes_of new ≡ bytes_of old)

-- a write replaces the bytes at the offset
abbrev pub MayWrite : CachedDevice → ℕ → List ℕ → Result (Unit {0}) Disk → CachedDevice → Type 0
MayWrite old at bytes result new = OnOk result (bytes_of new ≡ with_part (bytes_of old) at bytes)

-- a sync does not change what reads return
abbrev pub MaySync : CachedDevice → Result (Unit {0}) Disk → CachedDevice → Type 0
MaySync old result new = bytes_of new ≡ bytes_of old

-- the device with a cache as a medium
abbrev pub medium : Medium CachedDevice
medium = record {
  image = bytes_of;
  honest = IsHonest;
  failed = failures_of;
  may_leave = MayLeave;
  may_have_left = MayHaveLeft;
  reads = MayRead;
  writes = MayWrite;
  syncs = MaySync;
}

-- a stop may leave what reads return
pub reads_now : (device : CachedDevice) → MayLeave device (bytes_of device)
reads_now device = inl refl

-- in no time a stop may leave what it may leave now
pub at_once : (device : CachedDevice) (c : List ℕ) → MayHaveLeft device device c → MayLeave device c
at_once device c (inl now) = inl now
at_once device c (inr since) =
    let P : ℕ → Type 0 = λ count. LeavesSince device.start.items count (events_of device) c in
    inr (none (events_of device) (subst P (sub_self (length (events_of device))) since))
  where
    none : (events : List Event) → LeavesSince device.start.items 0 events c → Leaves device.start.items events c
    none [] left = left
    none (event ∷ before) left = left

-- what a stop now may leave, one up to now may have left
pub by_now : (start device : CachedDevice) (c : List ℕ) → MayLeave device c → MayHaveLeft start device c
by_now start device c (inl now) = inl now
by_now start device c (inr now) = inr (last (length (events_of device) - length (events_of start)) (events_of device) now)
  where
    last : (count : ℕ) (events : List Event) → Leaves device.start.items events c → LeavesSince device.start.items count events c
    last zero [] left = left
    last zero (event ∷ before) left = left
    last (suc count) [] left = left
    last (suc count) (event ∷ before) left = inl left
