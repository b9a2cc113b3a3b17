-- Changes of the table of offsets and of the elements after it.
use Rattle.std.specs.Prelude.{◌≡◌, ℕ, ◌+◌, ◌*◌, ◌<◌, ◌≤◌, ◌⊎◌, List, length, slice_index}
use Rattle.geos_terms.specs.Bytes.{word, IsShifted}

-- an offset of the table
abbrev pub offset : List ℕ → ℕ → ℕ
offset bytes j = word bytes (8 + 2 * j)

-- the offsets from one index up to another are `less` lower and `more` higher; no other byte
-- is changed
pub record ShiftsOffsets (old new : List ℕ) (from to less more : ℕ) : Type 0 where
  pub long : length new ≡ length old
  pub moved : (j : ℕ) → from ≤ j → j < to → offset new j + less ≡ offset old j + more
  pub rest : (k : ℕ) → (k < 8 + 2 * from) ⊎ (8 + 2 * to ≤ k) → slice_index new k ≡ slice_index old k

-- entry i of the table is the offset of a new element of n bytes, placed after the first i elements.
-- Those move up by 2 because of the new entry; the bytes after the new element do not move.
pub record OpensTable (old new : List ℕ) (count i at n : ℕ) : Type 0 where
  pub long : length new ≡ length old
  pub head : (k : ℕ) → k < 8 → slice_index new k ≡ slice_index old k
  pub before : (j : ℕ) → j < i → offset new j ≡ offset old j + 2
  pub here : offset new i ≡ at + 2
  pub behind : (j : ℕ) → i ≤ j → j < count → offset new (j + 1) ≡ offset old j + (n + 2)
  pub middle : IsShifted old new 0 2 (8 + 2 * count) at
  pub rest : IsShifted old new 0 0 (at + 2) (length old)

-- entry i of the table is removed, with the n bytes of its element at `at`.
-- The elements before it move down by 2; the bytes after it do not move.
pub record ClosesTable (old new : List ℕ) (count i at n : ℕ) : Type 0 where
  pub long : length new ≡ length old
  pub head : (k : ℕ) → k < 8 → slice_index new k ≡ slice_index old k
  pub before : (j : ℕ) → j < i → offset new j + 2 ≡ offset old j
  pub behind : (j : ℕ) → i ≤ j → j + 1 < count → offset new j + (n + 2) ≡ offset old (j + 1)
  pub middle : IsShifted old new 2 0 (8 + 2 * count) at
  pub rest : IsShifted old new 0 0 at (length old)
