-- When there may be no room, with blocks of both owners in memory, and which refusals come before it, computed on
-- examples.
use Rattle.std.proofs.Common.{◌≡◌, ℕ, true, false, [], ◌∷◌, ◌++◌, replicate, None, refl}
use Rattle.std.specs.Prelude.{Ok, Err}
use Rattle.geos_terms.specs.declared.refusal.Refusal.TheVariants.{BadChunk, NoRoom, NoHandle, Locked, Reserved, Disk}
use Rattle.geos_terms.specs.Names.{mem, vm}
use Rattle.geos_terms.specs.Chunks.{cost}
use Rattle.geos_calls.specs.Memory.{Memory, with_locks}
use Rattle.geos_calls.specs.Tight.{is_tight}
use Rattle.geos_calls.specs.Calls.{mnew, lalloc}
use Rattle.geos_calls.specs.VmCalls.{vnew, vlock}
use Rattle.geos_calls.specs.ItemCalls.{gnew, inew, ilock}
use Rattle.worked_examples.proofs.States.{unwilling}
use Rattle.worked_examples.proofs.CallsInTurn.{crowded, start, answer_under, listing, sized_in_file}
use Rattle.worked_examples.proofs.CallExamples.{sized}

-- a region of n bytes with two blocks of 64 and 128 bytes, each locked once. The VM file has three blocks and two
-- groups: a marked block of 64 bytes, an idle one of 256, a locked and marked one of 512, an idle group of 96 and a
-- marked group of 80. Each owner has one more handle, which is free
abbrev pub both : ℕ → Memory
both n = record start {
  region = n;
  handles = 1024;
  blocks = sized 64 1 ∷ sized 128 1 ∷ None ∷ [];
  file = record start.file {
    cur = listing (sized_in_file 5 64 true 0 ∷ sized_in_file 5 256 false 0 ∷ sized_in_file 5 512 true 1 ∷ sized_in_file
        65280 96 false 0 ∷ sized_in_file 65280 80 true 0 ∷ None ∷ []);
  };
}

-- no free handle of the file, in a region of one byte
abbrev pub full : Memory
full = record (both 1) { file = record start.file { cur = listing (replicate 5 (sized_in_file 5 64 true 0)) } }

-- each kind of call at its border: with one byte less of region room may be refused. What is in
-- memory of others counts, 848 bytes in all, and locked ones, three in all, once more
pub record Borders : Type 0 where
  -- each kind of call at its border: with one byte less of region, the call may be refused for lack of room. Blocks
  -- in memory count, 848 bytes in all; the three locked ones count once more, each with the size that the call needs
  pub grows : answer_under crowded (lalloc (mem 1) 300) (both 1791) ≡ Err NoRoom
  pub grown : answer_under crowded (lalloc (mem 1) 300) (both 1792) ≡ Ok 16
  -- one of the VM file that is to have 544: 3 * 544 + 848 - 512 are 1,968
  pub listed_grows : answer_under crowded (lalloc (vm 3) 508) (both 1967) ≡ Err NoRoom
  pub listed_grown : answer_under crowded (lalloc (vm 3) 508) (both 1968) ≡ Ok 16
  -- a new block of either owner, or a group: 4 * 64 + 848 are 1,104
  pub makes : answer_under crowded mnew (both 1103) ≡ Err NoRoom
  pub made : answer_under crowded mnew (both 1104) ≡ Ok 3
  pub lists : answer_under crowded (vnew 5) (both 1103) ≡ Err NoRoom
  pub listed : answer_under crowded (vnew 5) (both 1104) ≡ Ok 6
  pub groups : answer_under crowded gnew (both 1103) ≡ Err NoRoom
  pub grouped : answer_under crowded gnew (both 1104) ≡ Ok 6
  -- an idle block is brought: 4 * 256 + 848 are 1,872
  pub brings : answer_under crowded (vlock 2) (both 1871) ≡ Err NoRoom
  pub brought : answer_under crowded (vlock 2) (both 1872) ≡ Ok tt
  -- an idle group is, at the size that it has: 4 * 96 + 848 are 1,232
  pub brings_group : answer_under crowded (inew 4 4) (both 1231) ≡ Err NoRoom
  pub brought_group : answer_under crowded (inew 4 4) (both 1232) ≡ Ok 16
  -- the same for a lock, whatever item it names
  pub locks_group : answer_under crowded (ilock 4 40 4) (both 1231) ≡ Err NoRoom
  pub locked_group : answer_under crowded (ilock 4 40 4) (both 1232) ≡ Err BadChunk
  -- an idle group that is brought grows to 144: 4 * 144 + 848 are 1,424
  pub grows_group : answer_under crowded (inew 4 120) (both 1423) ≡ Err NoRoom
  pub grown_group : answer_under crowded (inew 4 120) (both 1424) ≡ Ok 16
  -- a marked group is in memory; it grows to 144: 4 * 144 + 848 - 80 are 1,344
  pub held_group : answer_under crowded (inew 5 120) (both 1343) ≡ Err NoRoom
  pub held_grown : answer_under crowded (inew 5 120) (both 1344) ≡ Ok 16

borders_computed : Borders
unfolding cost
borders_computed = record {
  grows = refl;
  grown = refl;
  listed_grows = refl;
  listed_grown = refl;
  makes = refl;
  made = refl;
  lists = refl;
  listed = refl;
  groups = refl;
  grouped = refl;
  brings = refl;
  brought = refl;
  brings_group = refl;
  brought_group = refl;
  locks_group = refl;
  locked_group = refl;
  grows_group = refl;
  grown_group = refl;
  held_group = refl;
  held_grown = refl;
}

-- a call on a block that is in memory and large enough needs no room, so it is not refused
pub record Roomy : Type 0 where
  pub fits : answer_under crowded (lalloc (mem 1) 40) (both 1) ≡ Ok 16
  pub marked : answer_under crowded (vlock 1) (both 1) ≡ Ok tt
  pub locked : answer_under crowded (vlock 3) (both 1) ≡ Ok tt
  pub item : answer_under crowded (inew 5 4) (both 1) ≡ Ok 16
  pub no_item : answer_under crowded (ilock 4 16 0) (both 1) ≡ Err NoRoom
  pub many : is_tight (record start { blocks = replicate 1023 (sized 64 0) ++ None ∷ [] }) (mem 1024) 64 ≡ false
  pub too_many : is_tight (record start { blocks = replicate 1023 (sized 64 0) ++ None ∷ [] }) (mem 1024) 128 ≡ true

roomy_computed : Roomy
unfolding cost
roomy_computed = record { fits = refl; marked = refl; locked = refl; item = refl; no_item = refl; many = refl; too_many = refl }

-- the orders of refusals of a lock, and of a new block, where all is refused that may be: a block
-- that is idle, a group, one of either whose count can't rise, and no free handle
pub record Orders : Type 0 where
  pub room_first : answer_under unwilling (vlock 2) (both 1871) ≡ Err NoRoom
  pub then_device : answer_under unwilling (vlock 2) (both 1872) ≡ Err Disk
  pub item_room_first : answer_under unwilling (inew 4 4) (both 1231) ≡ Err NoRoom
  pub item_then_device : answer_under unwilling (inew 4 4) (both 1232) ≡ Err Disk
  pub count_first : answer_under unwilling (vlock 3) (with_locks (both 1) (vm 3) 65535) ≡ Err Locked
  pub group_first : answer_under unwilling (vlock 4) (with_locks (both 1) (vm 4) 65535) ≡ Err Reserved
  pub group_count_first : answer_under unwilling (ilock 4 40 4) (with_locks (both 1) (vm 4) 65535) ≡ Err Locked
  pub uid_first : answer_under unwilling (vnew 65280) full ≡ Err Reserved
  pub handle_first : answer_under unwilling (vnew 5) full ≡ Err NoHandle

orders_computed : Orders
unfolding cost
orders_computed = record {
  room_first = refl;
  then_device = refl;
  item_room_first = refl;
  item_then_device = refl;
  count_first = refl;
  group_first = refl;
  group_count_first = refl;
  uid_first = refl;
  handle_first = refl;
}
