-- The worklist of pcs.
use Rattle.std.specs.Prelude.{◌≡◌, ◌<◌, ◌≤◌, ◌⊎◌, ◌+◌, ◌/◌, ℕ, Bool, true, false, List, slice_index_or}
use Rattle.geos_flow.specs.Marks.{is_marked}

-- each pc is marked
abbrev pub AllMarked : List Bool → Type 0
AllMarked marks = (pc : ℕ) → pc < 4096 → is_marked marks pc ≡ true

-- no pc is marked from one on and below another
abbrev pub NoneIn : List Bool → ℕ → ℕ → Type 0
NoneIn marks from end = (pc : ℕ) → from ≤ pc → pc < end → is_marked marks pc ≡ false

-- of these a pc is the first that is marked
pub record IsFirstIn (marks : List Bool) (from end pc : ℕ) : Type 0 where
  pub within : from ≤ pc
  pub below : pc < end
  pub there : is_marked marks pc ≡ true
  pub none : NoneIn marks from pc

-- of these a pc is the last that is marked
pub record IsLastIn (marks : List Bool) (from end pc : ℕ) : Type 0 where
  pub within : from ≤ pc
  pub below : pc < end
  pub there : is_marked marks pc ≡ true
  pub none : NoneIn marks (pc + 1) end

-- a pc is marked, and besides it what was
pub record Adds (pc : ℕ) (old new : List Bool) : Type 0 where
  pub there : is_marked new pc ≡ true
  pub keeps : (k : ℕ) → is_marked old k ≡ true → is_marked new k ≡ true
  pub was : (k : ℕ) → is_marked new k ≡ true → (k ≡ pc) ⊎ (is_marked old k ≡ true)

-- each block of 64 pcs that has a marked pc is flagged
abbrev pub AreIn : List Bool → List Bool → Type 0
AreIn blocks marks = (pc : ℕ) → is_marked marks pc ≡ true → slice_index_or blocks (pc / 64) false ≡ true
