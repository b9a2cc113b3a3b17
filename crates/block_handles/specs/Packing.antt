-- What packing the blocks of a stretch leaves.
use Rattle.std.specs.Prelude.{◌≡◌, ℕ, ◌+◌, ◌*◌, ◌≤◌, ◌⊎◌}
use Rattle.block_handles.specs.Store.{Store, locks_of, place_of, end_of, region_len}
use Rattle.block_handles.specs.Layout.{IsLaidOut}
use Rattle.block_handles.specs.Stretch.{sum_in, unlocked_size, IsStretch, other_locked, other_sizes}

-- each block lies in a range or off it, and but one that lies in it is not locked
abbrev pub CanPackBut : Store → ℕ → ℕ → ℕ → Type 0
CanPackBut store but from until =
    (slot : ℕ) → (end_of store slot ≤ from)
    ⊎ ((until ≤ place_of store slot) ⊎ ((from ≤ place_of store slot) × (end_of store slot ≤ until) × ((slot ≡ but) ⊎ (locks_of store slot ≡ 0))))

-- each block lies in a range or off it, and none that lies in it is locked
abbrev pub CanPack : Store → ℕ → ℕ → Type 0
CanPack store from until =
    (slot : ℕ) → (end_of store slot ≤ from)
    ⊎ ((until ≤ place_of store slot) ⊎ ((from ≤ place_of store slot) × (end_of store slot ≤ until) × (locks_of store slot ≡ 0)))

-- the blocks between `from` and `until` have moved to between `low` and `high`; everything else is unchanged
pub record Moves (old new : Store) (from until low high : ℕ) : Type 0 where
  pub blocks : new.blocks ≡ old.blocks
  pub len : new.len ≡ old.len
  pub laid : IsLaidOut new
  pub moved : (slot : ℕ) → (place_of new slot ≡ place_of old slot)
      ⊎ ((from ≤ place_of old slot) × (end_of old slot ≤ until) × (locks_of old slot ≡ 0) × (low ≤ place_of new slot) × (end_of new slot ≤ high))

-- no block crosses an offset
abbrev pub IsEdge : Store → ℕ → Type 0
IsEdge store at = (slot : ℕ) → (end_of store slot ≤ at) ⊎ (at ≤ place_of store slot)

-- a range with this much room beside its unlocked blocks
pub record IsRoomy (store : Store) (but from until room : ℕ) : Type 0 where
  pub ordered : from ≤ until
  pub inside : until ≤ region_len store
  pub packs : CanPackBut store but from until
  pub fits : from + sum_in store from until (unlocked_size store but) + room ≤ until

-- the same, and no stretch has more
pub record IsRoomiest (store : Store) (but from until room : ℕ) : Type 0 where
  pub ordered : from ≤ until
  pub inside : until ≤ region_len store
  pub packs : CanPackBut store but from until
  pub fits : from + sum_in store from until (unlocked_size store but) + room ≤ until
  pub most : (a b : ℕ) → IsStretch store but a b → b ≤ a + sum_in store a b (unlocked_size store but) + room
  pub crowd : region_len store ≤ (other_locked store but + 1) * room + other_sizes store but
