-- The notes for the host, and what a stop leaves while the host performs them.
use Rattle.std.specs.Prelude.{◌≡◌, ◌⊎◌, ℕ, zero, suc, ◌-◌, List, [], ◌∷◌, ◌++◌, length, map, reverse, refl, Result, OnErr, OnOk}
use Rattle.std.proofs.Common.{inl, inr, subst, sym}
use Rattle.std.proofs.Math.Nat.{sub_self}
use Rattle.std.proofs.lemmas.List.{append-nil}
use Rattle.lmem_raw.specs.Bytes.{part, with_part}
use Rattle.vm_file.specs.Device.{AfterWrite, Medium, Touched}
use Rattle.vm_file.specs.declared.device.Disk.{Disk}
use Rattle.vm_file.specs.Memory as memory
use Rattle.vm_file.proofs.Touches.{touched_part}
use Rattle.host_device.specs.declared.device.HostDevice.{HostDevice}
use Rattle.host_device.specs.Notes.{Note, Write, Sync}

-- a host's bytes after it has performed these steps, the last step first
abbrev pub performed : List ℕ → List Note → List ℕ
performed host [] = host
performed host (Write at stood bytes ∷ before) = with_part (performed host before) at bytes
performed host (Sync ∷ before) = performed host before

-- the bytes before a step, from the bytes after it
abbrev pub before_step : List ℕ → Note → List ℕ
before_step bytes (Write at stood given) = with_part bytes at stood
before_step bytes Sync = bytes

-- what a stop may leave after these steps, the last step first, if they resulted in these
-- bytes. After a sync the bytes are durable. A range that was written since may have any bytes.
abbrev pub Leaves : List ℕ → List Note → List ℕ → Type 0
Leaves bytes [] c = c ≡ bytes
Leaves bytes (Write at stood given ∷ before) c = AfterWrite at (length stood) (Leaves (with_part bytes at stood) before) c
Leaves bytes (Sync ∷ before) c = c ≡ bytes

-- what a stop may leave before the last so many of these steps, or after one of them
abbrev pub LeavesSince : List ℕ → ℕ → List Note → List ℕ → Type 0
LeavesSince bytes (suc count) (step ∷ before) c = Leaves bytes (step ∷ before) c ⊎ LeavesSince (before_step bytes step) count before c
LeavesSince bytes count steps c = Leaves bytes steps c

-- the bytes that reads return
abbrev pub bytes_of : HostDevice → List ℕ
bytes_of device = memory.bytes_of device.cache

-- how many calls have failed, up to the greatest number
abbrev pub failures_of : HostDevice → ℕ
failures_of device = device.failures

-- the calls that the host has not performed, in order
abbrev pub journal_of : HostDevice → List Note
journal_of device = device.log

-- the same, the last step first
abbrev pub steps_of : HostDevice → List Note
steps_of device = reverse (journal_of device)

-- for any bytes of a host: if the notes, performed on them, result in the device's bytes, they do so afterwards too
abbrev pub Follows : HostDevice → HostDevice → Type 0
Follows old new = (host : List ℕ) → performed host (steps_of old) ≡ bytes_of old → performed host (steps_of new) ≡ bytes_of new

-- what a step writes: the offset and the new bytes; nothing for a sync
abbrev pub told : Note → List ℕ
told (Write at stood bytes) = at ∷ bytes
told Sync = []

-- the device has continued from an earlier state: it has the notes of
-- that state, possibly more notes after them, and `Follows` is true
pub record GoesOn (old new : HostDevice) : Type 0 where
  pub more : List (List ℕ)
  pub notes : map told (journal_of new) ≡ map told (journal_of old) ++ more
  pub follows : Follows old new

-- the device has the same bytes and the same notes
pub record IsStill (old new : HostDevice) : Type 0 where
  pub bytes : bytes_of new ≡ bytes_of old
  pub journal : journal_of new ≡ journal_of old

-- one more note: the write of these bytes from an offset on, with the device's bytes there before it
abbrev pub Notes : ℕ → List ℕ → HostDevice → HostDevice → Type 0
Notes at bytes old new = steps_of new ≡ Write at (part (bytes_of old) at (length bytes)) bytes ∷ steps_of old

-- one more note: a sync
abbrev pub NotesSync : HostDevice → HostDevice → Type 0
NotesSync old new = steps_of new ≡ Sync ∷ steps_of old

-- there are no notes, and nothing else has changed
abbrev pub Settles : HostDevice → HostDevice → Type 0
Settles old new = new ≡ record old { log = [] }

-- a read always returns what was last written
abbrev pub IsHonest : HostDevice → Type 0
IsHonest device = Unit {0}

-- a stop now may leave what the noted steps may leave
abbrev pub MayLeave : HostDevice → List ℕ → Type 0
MayLeave device c = Leaves (bytes_of device) (steps_of device) c

-- a stop since an earlier state may have left what the steps may leave at a moment since then; anything if the device has not continued from
-- that state
abbrev pub MayHaveLeft : HostDevice → HostDevice → List ℕ → Type 0
MayHaveLeft start device c = LeavesSince (bytes_of device) (length (steps_of device) - length (steps_of start)) (steps_of device) c
    ⊎ (GoesOn start device → ⊥)

-- a read returns the bytes in its range, and changes nothing
abbrev pub MayRead : HostDevice → ℕ → List ℕ → Result (Unit {0}) Disk → HostDevice → Type 0
MayRead old at bytes result new = OnOk result (bytes ≡ part (bytes_of old) at (length bytes)) × IsStill old new

-- a write replaces the bytes in its range and is noted; or it fails, and changes nothing
abbrev pub MayWrite : HostDevice → ℕ → List ℕ → Result (Unit {0}) Disk → HostDevice → Type 0
MayWrite old at bytes result new = OnOk result ((bytes_of new ≡ with_part (bytes_of old) at bytes) × Notes at bytes old new)
    × OnErr result (IsStill old new)

-- a sync is noted; or it fails, and changes nothing
abbrev pub MaySync : HostDevice → Result (Unit {0}) Disk → HostDevice → Type 0
MaySync old result new = (bytes_of new ≡ bytes_of old) × OnOk result (NotesSync old new) × OnErr result (IsStill old new)

-- the device as a medium
abbrev pub medium : Medium HostDevice
medium = record {
  image = bytes_of;
  honest = IsHonest;
  failed = failures_of;
  may_leave = MayLeave;
  may_have_left = MayHaveLeft;
  reads = MayRead;
  writes = MayWrite;
  syncs = MaySync;
}

-- a stop may leave the bytes that steps result in
pub leaves_now : (steps : List Note) (bytes : List ℕ) → Leaves bytes steps bytes
leaves_now [] bytes = refl
leaves_now (Write at stood given ∷ before) bytes =
    let t = touched_part at bytes stood in
    let back : Touched at (length stood) (with_part bytes at stood) bytes =
    record { long = sym t.long; before = sym t.before; behind = sym t.behind } in
    (with_part bytes at stood, leaves_now before (with_part bytes at stood), back)
leaves_now (Sync ∷ before) bytes = refl

-- a stop may leave the bytes that reads return
pub reads_now : (device : HostDevice) → MayLeave device (bytes_of device)
reads_now device = leaves_now (steps_of device) (bytes_of device)

-- each device has continued from itself
pub goes_on_here : (device : HostDevice) → GoesOn device device
goes_on_here device = record { more = []; notes = sym (append-nil (map told (journal_of device))); follows = λ host was. was }

-- if no call was made since, a stop may have left only what it may leave now
pub at_once : (device : HostDevice) (c : List ℕ) → MayHaveLeft device device c → MayLeave device c
at_once device c (inr lost) = absurd (lost (goes_on_here device))
at_once device c (inl since) =
    let P : ℕ → Type 0 = λ count. LeavesSince (bytes_of device) count (steps_of device) c in
    none (steps_of device) (subst P (sub_self (length (steps_of device))) since)
  where
    none : (steps : List Note) → LeavesSince (bytes_of device) 0 steps c → Leaves (bytes_of device) steps c
    none [] left = left
    none (step ∷ before) left = left

-- what a stop may leave now, a stop up to now may have left
pub by_now : (start device : HostDevice) (c : List ℕ) → MayLeave device c → MayHaveLeft start device c
by_now start device c now = inl (last (length (steps_of device) - length (steps_of start)) (steps_of device) now)
  where
    last : (count : ℕ) (steps : List Note) → Leaves (bytes_of device) steps c → LeavesSince (bytes_of device) count steps c
    last zero [] left = left
    last zero (step ∷ before) left = left
    last (suc count) [] left = left
    last (suc count) (step ∷ before) left = inl left
