-- What calls do to a store.
use Rattle.std.specs.Prelude.{◌≡◌, ℕ, slice_set}
use Rattle.block_handles.specs.Store.{Store}
use Rattle.block_handles.specs.Change.{new_block, grown_block, LockedStay}
use Rattle.block_handles.specs.Layout.{IsLaidOut}

-- a new block of zeros; every other block is unchanged, except that an unlocked one may move
pub record Makes (old new : Store) (slot size : ℕ) : Type 0 where
  pub blocks : new.blocks ≡ slice_set old.blocks slot (new_block size)
  pub stay : LockedStay old new slot
  pub laid : IsLaidOut new
  pub len : new.len ≡ old.len

-- appends zeros to a block; every other block is unchanged, except that an unlocked one may move
pub record Grows (old new : Store) (slot size : ℕ) : Type 0 where
  pub blocks : new.blocks ≡ slice_set old.blocks slot (grown_block old slot size)
  pub stay : LockedStay old new slot
  pub laid : IsLaidOut new
  pub len : new.len ≡ old.len
