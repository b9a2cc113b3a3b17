-- The free range in which the next block is placed.
use Rattle.std.specs.Prelude.{◌≡◌, ℕ, ◌+◌, ◌≤◌}
use Rattle.block_handles.specs.declared.room.Gap.{Gap}
use Rattle.block_handles.specs.Store.{Store, place_of, region_len}
use Rattle.block_handles.specs.Change.{LockedStay}
use Rattle.block_handles.specs.Layout.{IsLaidOut, IsFree, IsFreeBut}

-- a free range of the region
pub record IsGap (store : Store) (gap : Gap) : Type 0 where
  pub ordered : gap.at ≤ gap.end
  pub inside : gap.end ≤ region_len store
  pub free : IsFree store gap.at gap.end

-- a range of the region that contains no block except possibly this one
pub record IsGapBut (store : Store) (slot : ℕ) (gap : Gap) : Type 0 where
  pub ordered : gap.at ≤ gap.end
  pub inside : gap.end ≤ region_len store
  pub free : IsFreeBut store slot gap.at gap.end

-- blocks lie as they should, and the gap is free
pub record IsReady (store : Store) (gap : Gap) : Type 0 where
  pub laid : IsLaidOut store
  pub room : IsGap store gap

-- blocks have moved so that the gap has room for one of them, or for a new one
pub record MakesRoom (old new : Store) (slot size : ℕ) (gap : Gap) : Type 0 where
  pub blocks : new.blocks ≡ old.blocks
  pub len : new.len ≡ old.len
  pub laid : IsLaidOut new
  pub stay : LockedStay old new slot
  pub own : place_of new slot ≡ place_of old slot
  pub room : gap.at + size ≤ gap.end
  pub inside : gap.end ≤ region_len new
  pub free : IsFreeBut new slot gap.at gap.end
