-- What each row of the table leaves: which blocks it is on, what it makes stale, what becomes of
-- counts and marks, and what of the VM file beside its blocks.
use Rattle.std.specs.Prelude.{◌≡◌, ◌⊎◌, ℕ, ◌+◌, ◌-◌, ◌<◌, Bool, true, false, List, [], Option, Some, None, unwrap_or, option_map, is_none, IsSomeAnd}
use Rattle.geos_terms.specs.declared.name.Name.{Name}
use Rattle.geos_terms.specs.declared.name.Owner.TheVariants.{Mem, Vm}
use Rattle.geos_terms.specs.declared.refusal.Refusal.{Refusal}
use Rattle.geos_terms.specs.declared.refusal.Refusal.TheVariants.{Disk}
use Rattle.geos_terms.specs.Names.{mem, vm}
use Rattle.geos_terms.specs.Refusals.{first_refusal}
use Rattle.geos_calls.specs.Directories.{marked_block}
use Rattle.geos_calls.specs.Memory.{Memory, at_handle, block_of, listed_at, locks_of, is_marked, lowest_handle}
use Rattle.geos_calls.specs.Given.{given_memory}
use Rattle.geos_calls.specs.Effects.{Choice, Staleness, Nothing, InBlock, OfLock, outcome, effect_of}
use Rattle.geos_calls.specs.VmCalls.{Keeper, keep_current, keep_saved, keep_reverted, pair_to_keep, in_doubt, bring}
use Rattle.geos_calls.specs.ItemCalls.{in_group}
use Rattle.geos_calls.specs.Table.{KernelCall, Mnew, Mlock, Mfree, Unlock, Changes, Makes, Store, Copy, Vnew, LockListed, Vlock, Vdirty, FreeListed, Vfree, Vsetmap, Vupdate, Vsave, Vrevert, Gnew, Gfree, ChangesItem, MakesItem, Ilock, Isetmap, row}

-- Which blocks a call is on

-- no block, one, or all of the VM file
pub data Scope : Type 0 where
  NoBlock : Scope
  OneBlock : Name → Scope
  WholeFile : Scope

-- a named block is one of them
abbrev pub IsWithin : Scope → Name → Type 0
IsWithin NoBlock name = ⊥
IsWithin (OneBlock own) name = own ≡ name
IsWithin WholeFile name = name.owner ≡ Vm

-- the name of a new block of global memory
abbrev pub new_mem : Memory → Name
new_mem memory = mem (unwrap_or (lowest_handle memory Mem) 0)

-- the name of a new block of the VM file
abbrev pub new_vm : Memory → Name
new_vm memory = vm (unwrap_or (lowest_handle memory Vm) 0)

-- the blocks that a call is on: those that it may make, change or free
abbrev pub scope_of : KernelCall → Memory → Scope
scope_of Mnew memory = OneBlock (new_mem memory)
scope_of (Mlock h) memory = OneBlock (mem h)
scope_of (Mfree h) memory = OneBlock (mem h)
scope_of (Unlock name) memory = OneBlock name
scope_of (Changes name change) memory = OneBlock name
scope_of (Makes name make) memory = OneBlock name
scope_of (Store ref i bytes) memory = OneBlock ref.name
scope_of (Copy to from n) memory = OneBlock to.name
scope_of (Vnew uid) memory = OneBlock (new_vm memory)
scope_of (LockListed h) memory = OneBlock (vm h)
scope_of (Vlock h) memory = OneBlock (vm h)
scope_of (Vdirty h) memory = OneBlock (vm h)
scope_of (FreeListed h) memory = OneBlock (vm h)
scope_of (Vfree h) memory = OneBlock (vm h)
scope_of Vupdate memory = WholeFile
scope_of Vsave memory = WholeFile
scope_of Vrevert memory = WholeFile
scope_of Gnew memory = OneBlock (new_vm memory)
scope_of (Gfree g) memory = OneBlock (vm g)
scope_of (ChangesItem g change) memory = OneBlock (vm g)
scope_of (MakesItem g make) memory = OneBlock (vm g)
scope_of (Ilock g i n) memory = OneBlock (vm g)
scope_of _ memory = NoBlock

-- blocks that are not among these are as they were: their counts, their chunks and sizes, and
-- of those of the VM file their user IDs and marks; and the limits on bytes and handles are as they were
pub record LeavesOthers (scope : Scope) (old new : Memory) : Type 0 where
  pub blocks : (h : ℕ) → (IsWithin scope (mem h) → ⊥) → at_handle None new.blocks h ≡ at_handle None old.blocks h
  pub listed : (h : ℕ) → (IsWithin scope (vm h) → ⊥) → listed_at new h ≡ listed_at old h
  pub region : new.region ≡ old.region
  pub handles : new.handles ≡ old.handles

-- What is made stale

-- what a call makes stale, under every choice, and whether it succeeds or is refused: an unlock, the references of
-- its lock; a call that may move chunks, the references into its block
abbrev pub stale_of : KernelCall → Memory → Staleness
stale_of (Unlock name) memory = OfLock name
stale_of (Changes name change) memory = InBlock name
stale_of (Makes name make) memory = InBlock name
stale_of (ChangesItem g change) memory = in_group memory g
stale_of (MakesItem g make) memory = in_group memory g
stale_of _ memory = Nothing

-- Counts of locks, and marks

-- what a call does to the counts: nothing, or one count has this value afterwards
pub data Counts : Type 0 where
  SameCounts : Counts
  OneCount : Name → ℕ → Counts

-- what becomes of the marks: nothing; one is set or not then; or none is
pub data Marks : Type 0 where
  SameMarks : Marks
  OneMark : ℕ → Bool → Marks
  NoMarks : Marks

-- what becomes of the counts at each call
abbrev pub counts_of : KernelCall → Memory → Counts
counts_of Mnew memory = OneCount (new_mem memory) 1
counts_of (Mlock h) memory = OneCount (mem h) (locks_of memory (mem h) + 1)
counts_of (Mfree h) memory = OneCount (mem h) 0
counts_of (Unlock name) memory = OneCount name (locks_of memory name - 1)
counts_of (Vnew uid) memory = OneCount (new_vm memory) 1
counts_of (LockListed h) memory = OneCount (vm h) (locks_of memory (vm h) + 1)
counts_of (Vlock h) memory = OneCount (vm h) (locks_of memory (vm h) + 1)
counts_of (FreeListed h) memory = OneCount (vm h) 0
counts_of (Vfree h) memory = OneCount (vm h) 0
counts_of Gnew memory = OneCount (new_vm memory) 0
counts_of (Gfree g) memory = OneCount (vm g) 0
counts_of (Ilock g i n) memory = OneCount (vm g) (locks_of memory (vm g) + 1)
counts_of _ memory = SameCounts

-- what becomes of the marks at each call
abbrev pub marks_of : KernelCall → Memory → Marks
marks_of (Vnew uid) memory = OneMark (new_vm memory).h true
marks_of (Vdirty h) memory = OneMark h true
marks_of (FreeListed h) memory = OneMark h false
marks_of (Vfree h) memory = OneMark h false
marks_of Vupdate memory = NoMarks
marks_of Vsave memory = NoMarks
marks_of Vrevert memory = NoMarks
marks_of Gnew memory = OneMark (new_vm memory).h true
marks_of (Gfree g) memory = OneMark g false
marks_of (ChangesItem g change) memory = OneMark g true
marks_of (MakesItem g make) memory = OneMark g true
marks_of _ memory = SameMarks

-- the counts afterwards; `LeavesOthers` says that those of other blocks are as they were
abbrev pub HasCounts : Counts → Memory → Memory → Type 0
HasCounts SameCounts old new = (name : Name) → locks_of new name ≡ locks_of old name
HasCounts (OneCount name n) old new = locks_of new name ≡ n

-- the marks afterwards
abbrev pub HasMarks : Marks → Memory → Memory → Type 0
HasMarks SameMarks old new = (h : ℕ) → is_marked new h ≡ is_marked old h
HasMarks (OneMark h marked) old new = is_marked new h ≡ marked
HasMarks NoMarks old new = (h : ℕ) → is_marked new h ≡ false

-- no block of the VM file is locked
abbrev pub NoneLocked : Memory → Type 0
NoneLocked memory = (h : ℕ) → locks_of memory (vm h) ≡ 0

-- the precondition of a call: a mark requires that the block is listed, and a commit that no block of the file is
-- locked. The other calls have no precondition, and refuse what they must
abbrev pub IsAskable : KernelCall → Memory → Type 0
IsAskable (Vdirty h) memory = is_none (listed_at memory h) ≡ false
IsAskable Vupdate memory = NoneLocked memory
IsAskable Vsave memory = NoneLocked memory
IsAskable Vrevert memory = NoneLocked memory
IsAskable _ memory = Unit {0}

-- The VM file beside its blocks

-- which pair a call commits, if it is a commit
abbrev pub keeper_of : KernelCall → Option Keeper
keeper_of Vupdate = Some keep_current
keeper_of Vsave = Some keep_saved
keeper_of Vrevert = Some keep_reverted
keeper_of _ = None

-- a call may change the map block: it sets one, frees the old one, or restores the saved directory
abbrev pub MapsBlock : KernelCall → Memory → Type 0
MapsBlock (Vsetmap h) memory = Unit {0}
MapsBlock (FreeListed h) memory = memory.file.cur.map_block ≡ h
MapsBlock (Vfree h) memory = memory.file.cur.map_block ≡ h
MapsBlock (Gfree g) memory = memory.file.cur.map_block ≡ g
MapsBlock Vrevert memory = Unit {0}
MapsBlock _ memory = ⊥

-- a call may change the map item: it sets one, frees the group of the old one, or restores the saved directory
abbrev pub MapsItem : KernelCall → Memory → Type 0
MapsItem (Isetmap g i) memory = Unit {0}
MapsItem (FreeListed h) memory = memory.file.cur.map_group ≡ h
MapsItem (Vfree h) memory = memory.file.cur.map_group ≡ h
MapsItem (Gfree g) memory = memory.file.cur.map_group ≡ g
MapsItem Vrevert memory = Unit {0}
MapsItem _ memory = ⊥

-- a call makes another directory the saved one
abbrev pub Saves : KernelCall → Type 0
Saves Vsave = Unit {0}
Saves _ = ⊥

-- a call writes the current directory to the device, and the file then has it
abbrev pub Writes : KernelCall → Type 0
Writes Vupdate = Unit {0}
Writes Vsave = Unit {0}
Writes _ = ⊥

-- what a call leaves of the file except its blocks: the maps, if the call may not change them; the saved directory,
-- if it is no save; the committed pair, if it is no commit; and the area
pub record LeavesFile (call : KernelCall) (old new : Memory) : Type 0 where
  pub map_block : (MapsBlock call old → ⊥) → new.file.cur.map_block ≡ old.file.cur.map_block
  pub map_group : (MapsItem call old → ⊥) → new.file.cur.map_group ≡ old.file.cur.map_group
  pub map_item : (MapsItem call old → ⊥) → new.file.cur.map_item ≡ old.file.cur.map_item
  pub saved : (Saves call → ⊥) → new.file.saved ≡ old.file.saved
  pub kept : keeper_of call ≡ None → new.file.kept ≡ old.file.kept
  pub area : new.file.area ≡ old.file.area

-- the maps, the saved directory, the committed pair and the area are as they were
pub record SameFile (old new : Memory) : Type 0 where
  pub map_block : new.file.cur.map_block ≡ old.file.cur.map_block
  pub map_group : new.file.cur.map_group ≡ old.file.cur.map_group
  pub map_item : new.file.cur.map_item ≡ old.file.cur.map_item
  pub saved : new.file.saved ≡ old.file.saved
  pub kept : new.file.kept ≡ old.file.kept
  pub area : new.file.area ≡ old.file.area

-- The lemmas

-- what a refusal leaves: memory as it was; or, if the device failed late in a commit, memory as it was except that
-- the device may have the new pair
abbrev pub IsLeft : KernelCall → Choice → Refusal → Memory → Memory → Type 0
IsLeft call choice why old new = (new ≡ old) ⊎ ((why ≡ Disk) × (choice.unsure ≡ true)
    × IsSomeAnd (keeper_of call) (λ keeper. new ≡ in_doubt old (pair_to_keep keeper old)))

-- what holds for every row, on every memory and under every choice. `refused`, `stale`: what a refusal leaves, and
-- which references become stale.
-- `others`, `file`: the row leaves the blocks outside its scope, and its parts of the file, as they were, also if it
-- is refused.
-- The rest holds if the precondition of the call holds and the call succeeds: which counts and marks stay; and an
-- update or a save leaves each block of the file, except for its mark.
-- A bring that is given nothing changes nothing. What it is given leaves counts and marks, each locked block, and the
-- file except its blocks
pub record RowsLeave : Type 0 where
  pub refused : (call : KernelCall) (choice : Choice) (memory : Memory) (why : Refusal)
      → IsLeft call choice why memory ((row call choice memory).left why)
  pub stale : (call : KernelCall) (choice : Choice) (memory : Memory) → (row call choice memory).stale ≡ stale_of call memory
  pub others : (call : KernelCall) (choice : Choice) (memory : Memory) → LeavesOthers (scope_of call memory) memory
      (outcome (row call choice memory)).1
  pub file : (call : KernelCall) (choice : Choice) (memory : Memory) → LeavesFile call memory (outcome (row call choice memory)).1
  pub counts : (call : KernelCall) (choice : Choice) (memory : Memory) → IsAskable call memory
      → first_refusal (row call choice memory).refusals ≡ None → HasCounts (counts_of call memory) memory (row call choice memory).after
  pub marks : (call : KernelCall) (choice : Choice) (memory : Memory) → IsAskable call memory
      → first_refusal (row call choice memory).refusals ≡ None → HasMarks (marks_of call memory) memory (row call choice memory).after
  pub written : (call : KernelCall) (choice : Choice) (memory : Memory) → Writes call → IsAskable call memory → (h : ℕ)
      → listed_at (row call choice memory).after h ≡ option_map (marked_block false) (listed_at memory h)
  pub brought : (h : ℕ) (choice : Choice) (memory : Memory) → choice.given ≡ [] → (outcome (effect_of (bring h) choice memory)).1 ≡ memory
  pub given_counts : (given : List (Option (List (Option (List ℕ))))) (memory : Memory) (name : Name)
      → locks_of (given_memory given memory) name ≡ locks_of memory name
  pub given_marks : (given : List (Option (List (Option (List ℕ))))) (memory : Memory) (h : ℕ)
      → is_marked (given_memory given memory) h ≡ is_marked memory h
  pub given_locked : (given : List (Option (List (Option (List ℕ))))) (memory : Memory) (name : Name) → 0 < locks_of memory name
      → block_of (given_memory given memory) name ≡ block_of memory name
  pub given_file : (given : List (Option (List (Option (List ℕ))))) (memory : Memory) → SameFile memory (given_memory given memory)
