-- Directories of a VM file: blocks by handle, each with its user ID, and what is mapped.
use Rattle.std.specs.Prelude.{ℕ, ◌+◌, Bool, false, ◌||◌, nat_lt, ◌==◌, if◌then◌else◌, List, map, sum_by, replicate, Option, Some, None, option_map}
use Rattle.geos_calls.specs.Blocks.{Heap, Block}
use Rattle.geos_calls.specs.Handles.{with_entry_at}

-- a block of the current directory: its user ID, whether it is marked as changed, and, as for every block, its lock
-- count and its contents
pub record VmBlock : Type 0 where
  pub uid : ℕ
  pub marked : Bool
  pub block : Block

-- a block on the device
pub record KeptBlock : Type 0 where
  pub uid : ℕ
  pub heap : Heap

-- a directory: its blocks, that of handle 1 first; the map block, 0 for none; and the map item,
-- which is a group, 0 for none, and an item of it
pub record Directory (B : Type 0) : Type 0 where
  pub blocks : List (Option B)
  pub map_block : ℕ
  pub map_group : ℕ
  pub map_item : ℕ

-- the user ID of a listed block, or 0 if there is none
abbrev pub uid_in : Option VmBlock → ℕ
uid_in None = 0
uid_in (Some listed) = listed.uid

-- a listed block is marked as changed
abbrev pub is_marked_in : Option VmBlock → Bool
is_marked_in None = false
is_marked_in (Some listed) = listed.marked

-- a listed block is marked or locked: then it stays in memory
abbrev pub is_held : VmBlock → Bool
is_held listed = listed.marked || nat_lt 0 listed.block.locks

-- the same for an entry, if a block is listed there
abbrev pub is_held_in : Option VmBlock → Bool
is_held_in None = false
is_held_in (Some listed) = is_held listed

-- an entry with other contents and another lock count; its user ID and its mark stay
abbrev pub relisted : Option VmBlock → Block → VmBlock
relisted listed block = record { uid = uid_in listed; marked = is_marked_in listed; block = block }

-- a listed block that is marked, or not
abbrev pub marked_block : Bool → VmBlock → VmBlock
marked_block marked listed = record listed { marked = marked }

-- a listed block as a commit writes it
abbrev pub kept_block : VmBlock → KeptBlock
kept_block listed = record { uid = listed.uid; heap = listed.block.heap }

-- a block of the device as it is listed when it is not marked and not locked
abbrev pub idle_block : KeptBlock → VmBlock
idle_block kept = record { uid = kept.uid; marked = false; block = record { locks = 0; heap = kept.heap } }

-- a directory with each block changed, and the same maps
abbrev pub with_each : {A B : Type 0} → (A → B) → Directory A → Directory B
with_each change directory = record {
  blocks = map (option_map change) directory.blocks;
  map_block = directory.map_block;
  map_group = directory.map_group;
  map_item = directory.map_item;
}

-- a directory that names a handle neither as its map block nor as the group of its map item
abbrev pub unmapped : {B : Type 0} → Directory B → ℕ → Directory B
unmapped directory h = record directory {
  map_block = if directory.map_block == h then 0 else directory.map_block;
  map_group = if directory.map_group == h then 0 else directory.map_group;
  map_item = if directory.map_group == h then 0 else directory.map_item;
}

-- a directory that no longer lists a block
abbrev pub without_block : {B : Type 0} → Directory B → ℕ → Directory B
without_block directory h = unmapped (record directory { blocks = with_entry_at directory.blocks h None }) h

-- a directory that lists no block
abbrev pub no_directory : {B : Type 0} → Directory B
no_directory = record { blocks = replicate 1024 None; map_block = 0; map_group = 0; map_item = 0 }

-- what an entry takes on the device
abbrev pub entry_length : Option KeptBlock → ℕ
entry_length None = 0
entry_length (Some kept) = 6 + kept.heap.size

-- what a directory takes on the device
abbrev pub directory_length : Directory KeptBlock → ℕ
directory_length directory = 8 + sum_by entry_length directory.blocks
