-- The notes of a device's calls, and where they are in a log.
use Rattle.std.specs.Prelude.{ℕ, ◌+◌, ◌≤◌, ◌≡◌, List, Option, Some, None}
use Rattle.lmem_raw.specs.Bytes.{part}
use Rattle.host_device.specs.declared.record.Record.{Record}
use Rattle.host_device.specs.declared.record.Record.TheVariants as kind
use Rattle.host_device.specs.declared.step.Step.{Step}
use Rattle.host_device.specs.declared.step.Step.TheVariants as step

-- a call: a write, with its offset, the bytes there before it, and the new ones; or a sync
pub data Note : Type 0 where
  Write : ℕ → List ℕ → List ℕ → Note
  Sync : Note

-- the call of a record of a log, by the bytes of the log
abbrev pub note_in : List ℕ → Record → Note
note_in log (kind.Write at from len) = Write at (part log from len) (part log (from + len) len)
note_in log kind.Sync = Sync

-- the bytes of a record are among the first so many
abbrev pub IsWithin : ℕ → Record → Type 0
IsWithin most (kind.Write at from len) = from + len + len ≤ most
IsWithin most kind.Sync = Unit {0}

-- the step that a host gets is the step of the note, if there
-- is one: the offset and the new bytes of a write, or a sync
abbrev pub Tells : Option Step → Option Note → Type 0
Tells None None = Unit {0}
Tells (Some (step.Write at bytes)) (Some (Write from stood given)) = (at ≡ from) × (bytes.now ≡ given)
Tells (Some step.Sync) (Some Sync) = Unit {0}
Tells told other = ⊥
