-- The rows of the calls on groups and items in the table of the kernel's calls: a group is a
-- block of the VM file with a user ID of its own, and an item is a chunk of it.
use Rattle.std.specs.Prelude.{ℕ, ◌+◌, Bool, true, ◌&&◌, not, ◌==◌, if◌then◌else◌, [], ◌∷◌, ◌++◌}
use Rattle.geos_terms.specs.declared.refusal.Refusal.{Refusal}
use Rattle.geos_terms.specs.declared.refusal.Refusal.TheVariants.{BadHandle, Range}
use Rattle.geos_terms.specs.Names.{vm, group_uid}
use Rattle.geos_calls.specs.Memory.{Memory, with_cur, is_group, with_mark, locks_of, with_locks}
use Rattle.geos_calls.specs.Effects.{Call, Reference, Staleness, Nothing, InBlock, tells, bringing}
use Rattle.geos_calls.specs.Calls.{locks_full, lalloc, lfree, lrealloc, lins, ldel, deref}
use Rattle.geos_calls.specs.VmCalls.{does, makes_listed, frees_listed, vdirty, vunlock}

-- no group has this handle
abbrev pub no_group : Memory → ℕ → Bool × Refusal
no_group memory g = (not (is_group memory g), BadHandle)

-- the references into a group; none if the handle names no group
abbrev pub in_group : Memory → ℕ → Staleness
in_group memory g = if is_group memory g then InBlock (vm g) else Nothing

-- a call that changes the chunks of a group, which it brings into memory first and marks: the
-- call's row, with those tests in front
abbrev pub on_group : {A : Type 0} → ℕ → Call A → Call A
on_group g call choice memory =
    let row = call choice memory in
    record row {
      refusals = no_group memory g ∷ bringing choice memory g ++ row.refusals;
      after = with_mark row.after g true;
      stale = in_group memory g;
    }

-- Groups

-- makes a group under the lowest free handle, and marks it
abbrev pub gnew : Call ℕ
gnew = makes_listed [] group_uid 0

-- frees a group that is not locked
abbrev pub gfree : ℕ → Call (Unit {0})
gfree g choice memory = frees_listed (no_group memory g ∷ []) g choice memory

-- Items

-- makes an item of n zero bytes
abbrev pub inew : ℕ → ℕ → Call ℕ
inew g n = on_group g (lalloc (vm g) n)

-- frees an item
abbrev pub ifree : ℕ → ℕ → Call (Unit {0})
ifree g i = on_group g (lfree (vm g) i)

-- gives an item n bytes: the first of its bytes that fit, then zeros
abbrev pub irealloc : ℕ → ℕ → ℕ → Call (Unit {0})
irealloc g i n = on_group g (lrealloc (vm g) i n)

-- puts n zero bytes into an item at an offset
abbrev pub iins : ℕ → ℕ → ℕ → ℕ → Call (Unit {0})
iins g i at n = on_group g (lins (vm g) i at n)

-- takes n bytes out of an item at an offset
abbrev pub idel : ℕ → ℕ → ℕ → ℕ → Call (Unit {0})
idel g i at n = on_group g (ldel (vm g) i at n)

-- locks a group once more, which brings it into memory, and returns a reference to an item of at least n bytes
abbrev pub ilock : ℕ → ℕ → ℕ → Call Reference
ilock g i n choice memory =
    let row = deref (vm g) i n choice memory in
    record row {
      refusals = no_group memory g ∷ locks_full memory (vm g) ∷ bringing choice memory g ++ row.refusals;
      after = with_locks memory (vm g) (locks_of memory (vm g) + 1);
    }

-- marks a locked group as changed
abbrev pub idirty : ℕ → Call (Unit {0})
idirty = vdirty

-- unlocks a group once
abbrev pub iunlock : ℕ → Call (Unit {0})
iunlock = vunlock

-- The map item

-- returns the map item, with its group first
abbrev pub igetmap : Call (ℕ × ℕ)
igetmap choice memory = tells memory (memory.file.cur.map_group, memory.file.cur.map_item)

-- names the map item; the group 0, with the item 0, is for none
abbrev pub isetmap : ℕ → ℕ → Call (Unit {0})
isetmap g i choice memory =
    does memory
    ((not (g == 0) && not (is_group memory g), BadHandle) ∷ ((g == 0) && not (i == 0), Range) ∷ [])
    (with_cur memory (record memory.file.cur { map_group = g; map_item = i }))
