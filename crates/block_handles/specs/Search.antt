-- The blocks in the order in which they lie.
use Rattle.std.specs.Prelude.{ℕ, ◌<◌, ◌≤◌}
use Rattle.block_handles.specs.Store.{Store, size_of, place_of}

-- of the blocks that begin from `from` to `until`, this one lies first
pub record IsFirst (store : Store) (from until slot : ℕ) : Type 0 where
  pub there : 0 < size_of store slot
  pub high : from ≤ place_of store slot
  pub low : place_of store slot < until
  pub first : (other : ℕ) → 0 < size_of store other → from ≤ place_of store other → place_of store slot ≤ place_of store other

-- of the blocks that begin from `from` to `until`, this one lies last
pub record IsLast (store : Store) (from until slot : ℕ) : Type 0 where
  pub there : 0 < size_of store slot
  pub high : from ≤ place_of store slot
  pub low : place_of store slot < until
  pub last : (other : ℕ) → 0 < size_of store other → place_of store other < until → place_of store other ≤ place_of store slot

-- no block begins from `from` to `until`
abbrev pub BeginsNone : Store → ℕ → ℕ → Type 0
BeginsNone store from until = (slot : ℕ) → 0 < size_of store slot → from ≤ place_of store slot → place_of store slot < until → ⊥
