-- The current directory as a commit takes it, and what a commit leaves.
use Rattle.std.specs.Prelude.{◌≡◌, ◌≢◌, ℕ, false, List, [], ◌∷◌, ◌==◌, length, find, Option, Some, None, option_map}
use Rattle.std.specs.List.{flat_map, range_with_len}
use Rattle.block_handles.specs.Layout.{IsLaidOut}
use Rattle.block_handles.specs.Names.{IsHandle}
use Rattle.block_handles.specs.Store.{Block, Store, block_at, locks_of, place_of}
use Rattle.vm_file.specs.declared.commit.How.{How}
use Rattle.vm_file.specs.declared.commit.How.TheVariants.{Update, Save, Revert}
use Rattle.vm_file.specs.declared.directory.Entry.{Entry}
use Rattle.vm_file.specs.declared.directory.Directory.{Directory}
use Rattle.vm_blocks.specs.declared.entries.Held.{Held}
use Rattle.vm_blocks.specs.View.{VmState, held_at, vm_slot}
use Rattle.vm_blocks.specs.Tied.{NoneResident}

-- the bytes that are in memory under a handle
abbrev pub resident_of : Store → ℕ → Option (List ℕ)
resident_of s h = option_map (λ (b : Block). b.bytes) (block_at s (vm_slot h))

-- the length of a listed block: the length in memory if it is there, otherwise the listed length
abbrev pub len_now : Held → Option Block → ℕ
len_now e None = e.len
len_now e (Some b) = length b.bytes

-- how a directory lists what there is under a handle
abbrev pub entries_in : ℕ → Option Held → Option Block → List Entry
entries_in h None b = []
entries_in h (Some e) b = record { h = h; uid = e.uid; len = len_now e b } ∷ []

-- the entries of a handle
abbrev pub entries_of : {D : Type 0} → VmState D → Store → ℕ → List Entry
entries_of v s h = entries_in h (held_at v h) (block_at s (vm_slot h))

-- the entries of so many handles from 1 on
abbrev pub entries_to : {D : Type 0} → VmState D → Store → ℕ → List Entry
entries_to v s n = flat_map (entries_of v s) (range_with_len 1 n)

-- the current directory, each block with the length that it has now
abbrev pub directory_of : {D : Type 0} → VmState D → Store → Directory
directory_of v s = record { entries = record { items = entries_to v s 1024 }; map_block = v.map_block; map_item = v.map_item }

-- a directory entry as the table lists it after opening: not marked
abbrev pub as_held : Entry → Held
as_held e = record { uid = e.uid; len = e.len; marked = false }

-- what the table lists under a handle after opening a directory: the directory's entry, not marked
abbrev pub held_in : Directory → ℕ → Option Held
held_in d h = option_map as_held (find (λ e. e.h == h) d.entries.items)

-- the table lists a directory of the device, and no block is marked
pub record IsListOf {D : Type 0} (v : VmState D) (d : Directory) : Type 0 where
  pub each : (h : ℕ) → IsHandle h → held_at v h ≡ held_in d h
  pub map_block : v.map_block ≡ d.map_block
  pub map_item : v.map_item ≡ d.map_item

-- a block that is not marked, of this length: what a commit of it leaves
abbrev pub cleaned : ℕ → Held → Held
cleaned len e = record e { len = len; marked = false }

-- no block of the file is locked
abbrev pub NoneLocked : Store → Type 0
NoneLocked s = (h : ℕ) → IsHandle h → locks_of s (vm_slot h) ≡ 0

-- no block of the file is in memory any more, and every other block is unchanged
pub record DropsAll (old new : Store) : Type 0 where
  pub none : NoneResident new
  pub others : (slot : ℕ) → ((h : ℕ) → IsHandle h → slot ≢ vm_slot h) → block_at new slot ≡ block_at old slot
  pub places : (slot : ℕ) → ((h : ℕ) → IsHandle h → slot ≢ vm_slot h) → place_of new slot ≡ place_of old slot
  pub laid : IsLaidOut old → IsLaidOut new
  pub len : new.len ≡ old.len

-- the blocks in memory after a commit: as before, but after a revert none of the file
abbrev pub StoreAfter : How → Store → Store → Type 0
StoreAfter Update old new = new ≡ old
StoreAfter Save old new = new ≡ old
StoreAfter Revert old new = DropsAll old new
