-- The rows of the calls on blocks of the VM file, and on the file, in the table of the kernel's
-- calls.
use Rattle.std.specs.Prelude.{ℕ, ◌+◌, suc, Bool, true, false, ◌&&◌, not, nat_lt, ◌==◌, if◌then◌else◌, List, [], ◌∷◌, ◌++◌, drop, position, Option, Some, None, is_none, unwrap_or, option_map}
use Rattle.geos_terms.specs.declared.name.Owner.TheVariants.{Vm}
use Rattle.geos_terms.specs.declared.refusal.Refusal.{Refusal}
use Rattle.geos_terms.specs.declared.refusal.Refusal.TheVariants as refusal
use Rattle.geos_terms.specs.Names.{vm, group_uid}
use Rattle.geos_calls.specs.Directories.{VmBlock, KeptBlock, Directory, uid_in, kept_block, idle_block, with_each, without_block}
use Rattle.geos_calls.specs.VmFile.{Pair, Sure, pair_length, is_unsure, doubted}
use Rattle.geos_calls.specs.Memory.{Memory, new_heap, listed_at, with_cur, with_listed, is_group, with_mark, locks_of, with_locks, lowest_handle}
use Rattle.geos_calls.specs.Effects.{Choice, Effect, Call, Nothing, unchanged, tells, cannot_make, bringing}
use Rattle.geos_calls.specs.Calls.{locks_full, is_in_use, unlock}

-- no block of the VM file has this handle
abbrev pub no_listed : Memory → ℕ → Bool × Refusal
no_listed memory h = (is_none (listed_at memory h), refusal.BadHandle)

-- a handle names a group although the call requires a block
abbrev pub names_group : Memory → ℕ → Bool × Refusal
names_group memory h = (is_group memory h, refusal.Reserved)

-- the user ID of groups is given
abbrev pub is_reserved : ℕ → Bool × Refusal
is_reserved uid = (uid == group_uid, refusal.Reserved)

-- a call with these refusals and this memory afterwards, which makes nothing stale; each refusal leaves memory as it
-- was
abbrev pub does : Memory → List (Bool × Refusal) → Memory → Effect (Unit {0})
does memory refusals after = record { refusals = refusals; left = unchanged memory; after = after; answer = tt; stale = Nothing }

-- Blocks

-- a new block with this user ID, marked, and locked n times
abbrev pub new_listed : ℕ → ℕ → VmBlock
new_listed uid n = record { uid = uid; marked = true; block = record { locks = n; heap = new_heap } }

-- makes such a block under the lowest free handle; tests these refusals first
abbrev pub makes_listed : List (Bool × Refusal) → ℕ → ℕ → Call ℕ
makes_listed front uid n choice memory =
    let h = unwrap_or (lowest_handle memory Vm) 0 in
    record {
      refusals = front ++ ((is_none (lowest_handle memory Vm), refusal.NoHandle) ∷ (cannot_make choice memory (vm h), refusal.NoRoom) ∷ []);
      left = unchanged memory;
      after = with_listed memory h (Some (new_listed uid n));
      answer = h;
      stale = Nothing;
    }

-- makes a block, marks it and locks it
abbrev pub vnew : ℕ → Call ℕ
vnew uid = makes_listed (is_reserved uid ∷ []) uid 1

-- locks a block or group once more, which brings it into memory, with these refusals in front
abbrev pub locks_listed : List (Bool × Refusal) → ℕ → Call (Unit {0})
locks_listed front h choice memory = does memory (front ++ (locks_full memory (vm h) ∷ bringing choice memory h))
    (with_locks memory (vm h) (locks_of memory (vm h) + 1))

-- locks a block or group: a row below the kernel, for which a group is a block like any other
abbrev pub lock_listed : ℕ → Call (Unit {0})
lock_listed h choice memory = locks_listed (no_listed memory h ∷ []) h choice memory

-- locks a block that is no group
abbrev pub vlock : ℕ → Call (Unit {0})
vlock h choice memory = locks_listed (no_listed memory h ∷ names_group memory h ∷ []) h choice memory

-- brings a block or a group into memory, which the model's memory does not show: a part of other calls
abbrev pub bring : ℕ → Call (Unit {0})
bring h choice memory = does memory (no_listed memory h ∷ bringing choice memory h) memory

-- marks a locked block or group as changed
abbrev pub vdirty : ℕ → Call (Unit {0})
vdirty h choice memory = does memory [] (with_mark memory h true)

-- unlocks a block or group once
abbrev pub vunlock : ℕ → Call (Unit {0})
vunlock h = unlock (vm h)

-- memory without a block or group, which is then mapped no more
abbrev pub without_listed : Memory → ℕ → Memory
without_listed memory h = with_cur memory (without_block memory.file.cur h)

-- frees a block or group that is not locked, with these refusals in front
abbrev pub frees_listed : List (Bool × Refusal) → ℕ → Call (Unit {0})
frees_listed front h choice memory = does memory (front ++ (is_in_use memory (vm h) ∷ [])) (without_listed memory h)

-- frees a block or group: a row below the kernel, for which a group is a block like any other
abbrev pub free_listed : ℕ → Call (Unit {0})
free_listed h choice memory = frees_listed (no_listed memory h ∷ []) h choice memory

-- frees a block that is no group
abbrev pub vfree : ℕ → Call (Unit {0})
vfree h choice memory = frees_listed (no_listed memory h ∷ names_group memory h ∷ []) h choice memory

-- User IDs and the map block

-- a block is listed, and has this user ID
abbrev pub has_uid : ℕ → Option VmBlock → Bool
has_uid uid None = false
has_uid uid (Some listed) = listed.uid == uid

-- the handle of the first such entry after the one with handle `start`; the first of the entries has handle 1
abbrev pub found_above : ℕ → ℕ → List (Option VmBlock) → Option ℕ
found_above start uid entries = option_map (λ i. start + suc i) (position (has_uid uid) (drop start entries))

-- returns the lowest handle above `start` of a block with this user ID, or 0
abbrev pub vfind : ℕ → ℕ → Call ℕ
vfind start uid choice memory = record (tells memory (unwrap_or (found_above start uid memory.file.cur.blocks) 0)) { refusals = is_reserved uid ∷ [] }

-- returns the user ID of a block or group
abbrev pub vuid : ℕ → Call ℕ
vuid h choice memory = record (tells memory (uid_in (listed_at memory h))) { refusals = no_listed memory h ∷ [] }

-- returns the map block
abbrev pub vgetmap : Call ℕ
vgetmap choice memory = tells memory memory.file.cur.map_block

-- names the map block; 0 is for none
abbrev pub vsetmap : ℕ → Call (Unit {0})
vsetmap h choice memory =
    does memory ((not (h == 0) && is_none (listed_at memory h), refusal.BadHandle) ∷ names_group memory h ∷ [])
    (with_cur memory (record memory.file.cur { map_block = h }))

-- The file

-- the current directory as a commit writes it
abbrev pub written_directory : Memory → Directory KeptBlock
written_directory memory = with_each kept_block memory.file.cur

-- memory after a commit of a pair: its current directory without marks and with each count 0. A commit requires that
-- no block of the file is locked, so no count changes
abbrev pub committed : Memory → Pair → Memory
committed memory pair = record memory {
  file = record memory.file { cur = with_each idle_block pair.cur; saved = pair.saved; kept = Sure pair };
}

-- memory as it was, except that the device may have this pair
abbrev pub in_doubt : Memory → Pair → Memory
in_doubt memory pair = record memory { file = record memory.file { kept = doubted memory.file.kept pair } }

-- what a device error leaves of a commit: if it is late, the device may have the new pair or the old one
abbrev pub faulted : Choice → Memory → Pair → Memory
faulted choice memory pair = if choice.unsure then in_doubt memory pair else memory

-- what a refusal of a commit leaves: memory as it was, a fault of the device aside
abbrev pub left_by_commit : Choice → Memory → Pair → Refusal → Memory
left_by_commit choice memory pair refusal.Disk = faulted choice memory pair
left_by_commit choice memory pair why = memory

-- which pair a commit writes, given the current directory as it is written and the saved one
abbrev pub Keeper : Type 0
Keeper = Directory KeptBlock → Directory KeptBlock → Pair

-- the current directory, and the saved one as it was
abbrev pub keep_current : Keeper
keep_current cur saved = record { cur = cur; saved = saved }

-- the current directory, which is the saved one too
abbrev pub keep_saved : Keeper
keep_saved cur saved = record { cur = cur; saved = cur }

-- the saved directory, which is the current one again
abbrev pub keep_reverted : Keeper
keep_reverted cur saved = record { cur = saved; saved = saved }

-- the pair that a commit writes from this memory
abbrev pub pair_to_keep : Keeper → Memory → Pair
pair_to_keep keeper memory = keeper (written_directory memory) memory.file.saved

-- commits a pair to the device, and continues with it; requires that no block of the file is locked
abbrev pub commit : Keeper → Call (Unit {0})
commit keeper choice memory =
    let pair = pair_to_keep keeper memory in
    record {
      refusals =
          (is_unsure memory.file.kept, refusal.Unsure)
          ∷ (nat_lt memory.file.area (pair_length pair), refusal.TooBig)
          ∷ (choice.memory, refusal.Memory)
          ∷ (choice.device, refusal.Disk)
          ∷ [];
      left = left_by_commit choice memory pair;
      after = committed memory pair;
      answer = tt;
      stale = Nothing;
    }

-- writes the current directory beside the saved one
abbrev pub vupdate : Call (Unit {0})
vupdate = commit keep_current

-- makes the current directory the saved one
abbrev pub vsave : Call (Unit {0})
vsave = commit keep_saved

-- restores the saved directory
abbrev pub vrevert : Call (Unit {0})
vrevert = commit keep_reverted
