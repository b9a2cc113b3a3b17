-- The image that a choice of parts makes of what happened to a device with a cache.
use Rattle.std.specs.Prelude.{◌≡◌, ℕ, ◌+◌, ◌/◌, ◌<◌, Bool, false, ◌&&◌, ◌||◌, nat_le, nat_lt, if◌then◌else◌, List, [], ◌∷◌, Option, Some, None, length, slice_get, slice_index, slice_index_or}
use Rattle.cached_device.specs.History.{bytes_of, events_of}
use Rattle.cached_device.specs.declared.device.CachedDevice.{CachedDevice}
use Rattle.cached_device.specs.declared.event.Event.{Event}
use Rattle.cached_device.specs.declared.event.Event.TheVariants.{Written, Synced}
use Rattle.cached_device.specs.declared.part.Part.{Part}
use Rattle.cached_device.specs.declared.part.Part.TheVariants.{Old, New, Garbage}

-- the durable bytes after these events, the last event first: the bytes of the last sync, or the initial bytes
abbrev pub lasting : List ℕ → List Event → List ℕ
lasting start [] = start
lasting start (Written at n ∷ before) = lasting start before
lasting start (Synced bytes ∷ before) = bytes.items

-- a byte is one of the n bytes from an offset on
abbrev pub is_within : ℕ → ℕ → ℕ → Bool
is_within at n i = nat_le at i && nat_lt i (at + n)

-- a byte was written since bytes were made to last
abbrev pub is_written : List Event → ℕ → Bool
is_written [] i = false
is_written (Written at n ∷ before) i = is_within at n i || is_written before i
is_written (Synced bytes ∷ before) i = false

-- what a stop makes of a byte that was written, by what is chosen of its part: what lasted, what was written last, or garbage
abbrev pub byte_left : Option Part → ℕ → ℕ → ℕ
byte_left None old new = old
byte_left (Some Old) old new = old
byte_left (Some New) old new = new
byte_left (Some Garbage) old new = 0xa5

-- the byte of an image after a stop, if reads return these bytes; a part has 512 bytes
abbrev pub chosen : List Part → List ℕ → List ℕ → ℕ → ℕ
chosen parts now old i = byte_left (slice_get parts (i / 512)) (slice_index old i) (slice_index_or now i (slice_index old i))

-- an image has of each byte that was written what is chosen, and of each other one what lasts
pub record IsChosen (now start : List ℕ) (events : List Event) (parts : List Part) (image : List ℕ) : Type 0 where
  pub long : length image ≡ length (lasting start events)
  pub bytes : (i : ℕ) → i < length image →
      slice_index image i ≡ (if is_written events i then chosen parts now (lasting start events) i else slice_index (lasting start events) i)

-- the image that a stop now leaves of a device, by a choice of its parts
abbrev pub LeavesBy : CachedDevice → List Part → List ℕ → Type 0
LeavesBy device parts image = IsChosen (bytes_of device) device.start.items (events_of device) parts image
