-- Each row of the table of calls preserves legal memory.
use Rattle.std.specs.Prelude.{ℕ, ◌<◌, List, Option}
use Rattle.geos_terms.specs.declared.name.Name.{Name}
use Rattle.geos_terms.specs.Names.{vm}
use Rattle.geos_calls.specs.Legal.{AreBytes, IsMemory}
use Rattle.geos_calls.specs.Memory.{Memory}
use Rattle.geos_calls.specs.Given.{given_memory}
use Rattle.geos_calls.specs.Effects.{Choice, Reference, Call, outcome}
use Rattle.geos_calls.specs.declared.call.Change.{Change}
use Rattle.geos_calls.specs.declared.call.Make.{Make}
use Rattle.geos_calls.specs.declared.call.Make.TheVariants.{Lalloc, Canew}
use Rattle.geos_calls.specs.declared.call.Ask.{Ask}
use Rattle.geos_calls.specs.declared.call.Refer.{Refer}
use Rattle.geos_calls.specs.Calls.{mnew, mlock, unlock, mfree, load8, load16, store, copy}
use Rattle.geos_calls.specs.ChunkCalls.{change_row, make_row, ask_row, refer_row}
use Rattle.geos_calls.specs.VmCalls.{vnew, lock_listed, vlock, bring, vdirty, free_listed, vfree, vfind, vuid, vgetmap, vsetmap, vupdate, vsave, vrevert}
use Rattle.geos_calls.specs.ItemCalls.{on_group, gnew, gfree, ilock, igetmap, isetmap}

-- whatever is refused from outside, the call preserves legal memory, if it succeeds and if it is refused
abbrev pub Keeps : {A : Type 0} → Call A → Type 0
Keeps call = (choice : Choice) (memory : Memory) → IsMemory memory → IsMemory (outcome (call choice memory)).1

-- if an array is made, the size of its elements is a word
abbrev pub HasWordSize : Make → Type 0
HasWordSize (Lalloc n) = Unit {0}
HasWordSize (Canew k) = k < 65536

-- each call preserves legal memory. For a store, this requires that it writes bytes; for a new array, a new block and
-- a map item, that the size of elements, the user ID and the item are words. What a device returns preserves legal
-- memory too
pub record RowsKeepMemory : Type 0 where
  pub by_mnew : Keeps mnew
  pub by_mlock : (h : ℕ) → Keeps (mlock h)
  pub by_unlock : (name : Name) → Keeps (unlock name)
  pub by_mfree : (h : ℕ) → Keeps (mfree h)
  pub by_change : (name : Name) (change : Change) → Keeps (change_row name change)
  pub by_make : (name : Name) (make : Make) → HasWordSize make → Keeps (make_row name make)
  pub by_ask : (name : Name) (ask : Ask) → Keeps (ask_row name ask)
  pub by_refer : (name : Name) (refer : Refer) → Keeps (refer_row name refer)
  pub by_load8 : (ref : Reference) (i : ℕ) → Keeps (load8 ref i)
  pub by_load16 : (ref : Reference) (i : ℕ) → Keeps (load16 ref i)
  pub by_store : (ref : Reference) (i : ℕ) (ws : List ℕ) → AreBytes ws → Keeps (store ref i ws)
  pub by_copy : (to from : Reference) (n : ℕ) → Keeps (copy to from n)
  pub by_vnew : (uid : ℕ) → uid < 65536 → Keeps (vnew uid)
  pub by_lock_listed : (h : ℕ) → Keeps (lock_listed h)
  pub by_vlock : (h : ℕ) → Keeps (vlock h)
  pub by_bring : (h : ℕ) → Keeps (bring h)
  pub by_vdirty : (h : ℕ) → Keeps (vdirty h)
  pub by_free_listed : (h : ℕ) → Keeps (free_listed h)
  pub by_vfree : (h : ℕ) → Keeps (vfree h)
  pub by_vfind : (start uid : ℕ) → Keeps (vfind start uid)
  pub by_vuid : (h : ℕ) → Keeps (vuid h)
  pub by_vgetmap : Keeps vgetmap
  pub by_vsetmap : (h : ℕ) → Keeps (vsetmap h)
  pub by_vupdate : Keeps vupdate
  pub by_vsave : Keeps vsave
  pub by_vrevert : Keeps vrevert
  pub by_gnew : Keeps gnew
  pub by_gfree : (g : ℕ) → Keeps (gfree g)
  pub by_item_change : (g : ℕ) (change : Change) → Keeps (on_group g (change_row (vm g) change))
  pub by_item_make : (g : ℕ) (make : Make) → HasWordSize make → Keeps (on_group g (make_row (vm g) make))
  pub by_ilock : (g i n : ℕ) → Keeps (ilock g i n)
  pub by_igetmap : Keeps igetmap
  pub by_isetmap : (g i : ℕ) → i < 65536 → Keeps (isetmap g i)
  pub by_given : (given : List (Option (List (Option (List ℕ))))) (memory : Memory) → IsMemory memory → IsMemory (given_memory given memory)
