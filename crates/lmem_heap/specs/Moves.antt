-- Chunks that move, and their entries with them.
use Rattle.std.specs.Prelude.{◌≡◌, ℕ, ◌+◌, ◌-◌, ◌<◌, ◌≤◌, ◌⊎◌, ◌&&◌, nat_lt, if◌then◌else◌, List, length, slice_index}
use Rattle.geos_terms.specs.Bytes.{IsShifted}
use Rattle.geos_terms.specs.Block.{entry, entries, table_end}

-- an entry after the bytes from `from` to `end` moved to `to`
abbrev pub entry_moved : ℕ → ℕ → ℕ → ℕ → ℕ
entry_moved from end to e = if nat_lt from e && nat_lt e end then e - from + to else e

-- the entries from one up to another are what a function makes of them, and nothing else is
-- changed
pub record MapsEntries (old new : List ℕ) (f : ℕ → ℕ) (from end : ℕ) : Type 0 where
  pub mapped : (j : ℕ) → from ≤ j → j < end → entry new j ≡ f (entry old j)
  pub rest : (j : ℕ) → (j < from) ⊎ (end ≤ j) → j < entries old → entry new j ≡ entry old j
  pub head : (k : ℕ) → k < 16 → slice_index new k ≡ slice_index old k
  pub behind : (k : ℕ) → table_end old ≤ k → slice_index new k ≡ slice_index old k
  pub long : length new ≡ length old

-- the chunks from `from` to `end` have moved to `to`, and their entries name the new offsets
pub record MovesRun (old new : List ℕ) (from end to : ℕ) : Type 0 where
  pub long : length new ≡ length old
  pub head : (k : ℕ) → k < 16 → slice_index new k ≡ slice_index old k
  pub entries : (i : ℕ) → i < entries old → entry new i ≡ entry_moved from end to (entry old i)
  pub moved : IsShifted old new from to from end
  pub before : (k : ℕ) → table_end old ≤ k → k < from → k < to → slice_index new k ≡ slice_index old k
  pub behind : (k : ℕ) → end ≤ k → to + (end - from) ≤ k → slice_index new k ≡ slice_index old k
