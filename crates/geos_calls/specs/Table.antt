-- The whole table: every call of the kernel with its operands, and its row.
use Rattle.std.specs.Prelude.{ℕ, List}
use Rattle.geos_terms.specs.declared.name.Name.{Name}
use Rattle.geos_terms.specs.Names.{vm}
use Rattle.geos_calls.specs.declared.call.Change.{Change}
use Rattle.geos_calls.specs.declared.call.Make.{Make}
use Rattle.geos_calls.specs.declared.call.Ask.{Ask}
use Rattle.geos_calls.specs.declared.call.Refer.{Refer}
use Rattle.geos_calls.specs.Effects.{Reference, Call}
use Rattle.geos_calls.specs.Calls.{mnew, mlock, unlock, mfree, load8, load16, store, copy}
use Rattle.geos_calls.specs.ChunkCalls.{change_row, make_row, ask_row, refer_row}
use Rattle.geos_calls.specs.VmCalls.{vnew, lock_listed, vlock, bring, vdirty, free_listed, vfree, vfind, vuid, vgetmap, vsetmap, vupdate, vsave, vrevert}
use Rattle.geos_calls.specs.ItemCalls.{on_group, gnew, gfree, ilock, igetmap, isetmap}

-- a call of the kernel with its operands: on blocks of global memory; on the chunks of a block; on bytes; on blocks
-- of the VM file, and on the file; on groups and items.
-- Calls with the same row have one variant: `Unlock` also unlocks a block or a group of the file, and `Vdirty` also
-- marks a group.
-- Each variant has a row that the lemmas cover, even if no instruction makes it: `Bring`, `LockListed` and
-- `FreeListed`, which are rows below the kernel; a `ChangesItem` with another change than Lfree, Lrealloc, Lins and
-- Ldel; and a `MakesItem` of an array. `Changes` changes arrays in items, through a slot that contains the group
pub data KernelCall : Type 0 where
  Mnew : KernelCall
  Mlock : ℕ → KernelCall
  Mfree : ℕ → KernelCall
  Unlock : Name → KernelCall
  Changes : Name → Change → KernelCall
  Makes : Name → Make → KernelCall
  Asks : Name → Ask → KernelCall
  Refers : Name → Refer → KernelCall
  Load8 : Reference → ℕ → KernelCall
  Load16 : Reference → ℕ → KernelCall
  Store : Reference → ℕ → List ℕ → KernelCall
  Copy : Reference → Reference → ℕ → KernelCall
  Vnew : ℕ → KernelCall
  LockListed : ℕ → KernelCall
  Vlock : ℕ → KernelCall
  Bring : ℕ → KernelCall
  Vdirty : ℕ → KernelCall
  FreeListed : ℕ → KernelCall
  Vfree : ℕ → KernelCall
  Vfind : ℕ → ℕ → KernelCall
  Vuid : ℕ → KernelCall
  Vgetmap : KernelCall
  Vsetmap : ℕ → KernelCall
  Vupdate : KernelCall
  Vsave : KernelCall
  Vrevert : KernelCall
  Gnew : KernelCall
  Gfree : ℕ → KernelCall
  ChangesItem : ℕ → Change → KernelCall
  MakesItem : ℕ → Make → KernelCall
  Ilock : ℕ → ℕ → ℕ → KernelCall
  Igetmap : KernelCall
  Isetmap : ℕ → ℕ → KernelCall

-- a call without its result
abbrev pub unanswered : {A : Type 0} → Call A → Call (Unit {0})
unanswered call choice memory =
    let row = call choice memory in
    record { refusals = row.refusals; left = row.left; after = row.after; answer = tt; stale = row.stale }

-- the row of each call, without its result
abbrev pub row : KernelCall → Call (Unit {0})
row Mnew = unanswered mnew
row (Mlock h) = mlock h
row (Mfree h) = mfree h
row (Unlock name) = unlock name
row (Changes name change) = change_row name change
row (Makes name make) = unanswered (make_row name make)
row (Asks name ask) = unanswered (ask_row name ask)
row (Refers name refer) = unanswered (refer_row name refer)
row (Load8 ref i) = unanswered (load8 ref i)
row (Load16 ref i) = unanswered (load16 ref i)
row (Store ref i bytes) = store ref i bytes
row (Copy to from n) = copy to from n
row (Vnew uid) = unanswered (vnew uid)
row (LockListed h) = lock_listed h
row (Vlock h) = vlock h
row (Bring h) = bring h
row (Vdirty h) = vdirty h
row (FreeListed h) = free_listed h
row (Vfree h) = vfree h
row (Vfind start uid) = unanswered (vfind start uid)
row (Vuid h) = unanswered (vuid h)
row Vgetmap = unanswered vgetmap
row (Vsetmap h) = vsetmap h
row Vupdate = vupdate
row Vsave = vsave
row Vrevert = vrevert
row Gnew = unanswered gnew
row (Gfree g) = gfree g
row (ChangesItem g change) = on_group g (change_row (vm g) change)
row (MakesItem g make) = unanswered (on_group g (make_row (vm g) make))
row (Ilock g i n) = unanswered (ilock g i n)
row Igetmap = unanswered igetmap
row (Isetmap g i) = isetmap g i
