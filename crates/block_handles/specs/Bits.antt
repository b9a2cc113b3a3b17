-- A set of slots as the bits of words.
use Rattle.std.specs.Prelude.{◌≡◌, ◌≢◌, ℕ, ◌+◌, ◌/◌, ◌%◌, ◌<◌, ◌≤◌, List, length, slice_index}
use Rattle.std.specs.Int.{bit_at}

-- 1 if the slot is in the set, otherwise 0
abbrev pub bit_of : List ℕ → ℕ → ℕ
bit_of words slot = bit_at (slice_index words (slot / 64)) (slot % 64)

-- one slot is set to this bit, and every other slot is unchanged
pub record SetsBit (old new : List ℕ) (slot bit : ℕ) : Type 0 where
  pub here : bit_of new slot ≡ bit
  pub others : (other : ℕ) → other ≢ slot → bit_of new other ≡ bit_of old other
  pub long : length new ≡ length old

-- of the 1,024 slots from the first on, the lowest that is not in the set
pub record IsLowestFree (words : List ℕ) (first slot : ℕ) : Type 0 where
  pub low : first ≤ slot
  pub high : slot < first + 1024
  pub free : bit_of words slot ≡ 0
  pub lower : (other : ℕ) → first ≤ other → other < slot → bit_of words other ≡ 1
