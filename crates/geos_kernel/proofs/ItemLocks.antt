-- What the kernel promises of calls on items, and of a group that is locked with the span of an item of it.
use Rattle.std.proofs.Common.{◌≡◌, ℕ, ◌+◌, ◌≤◌, List, Option, Some, None, refl, ap, subst, sym, ◌∙◌}
use Rattle.std.specs.Prelude.{IfOk, IfSome, IsSomeAnd, OnOk, Result, Ok, Err}
use Rattle.geos_terms.specs.declared.refusal.Refusal.{Refusal}
use Rattle.geos_terms.specs.declared.refusal.Refusal.TheVariants.{BadHandle, Disk, NoRoom}
use Rattle.geos_terms.specs.Edits.{Edit}
use Rattle.geos_terms.specs.Names.{group_uid, vm}
use Rattle.geos_calls.specs.Calls.{in_block}
use Rattle.geos_calls.specs.Effects.{Call, Choice, effect_of}
use Rattle.geos_calls.specs.Given.{given_memory}
use Rattle.geos_calls.specs.ItemCalls.{ilock, in_group}
use Rattle.geos_calls.specs.VmFile.{VmFile}
use Rattle.block_handles.specs.Change.{with_lock_more}
use Rattle.block_handles.specs.Store.{Store, IsThere, place_of}
use Rattle.vm_file.specs.Device.{Medium}
use Rattle.vm_blocks.specs.Bringing.{ReadsDevice}
use Rattle.vm_blocks.specs.declared.entries.Held.{Held}
use Rattle.vm_blocks.specs.Room.{LacksRoom, NoneIdle}
use Rattle.vm_blocks.specs.View.{VmState, held_at, vm_slot, with_device}
use Rattle.db_items.specs.Groups.{IsGroup}
use Rattle.db_items.specs.Items.{ChangesItem, LacksItemRoom, LocksItem, listed_after, refers_to}
use Rattle.geos_kernel.specs.declared.span.Span.{Span}
use Rattle.geos_kernel.specs.Files.{CallsItem, InMemory, LeavesKept, ReadsFile}
use Rattle.geos_kernel.specs.Kernel.{HasNoRoomIn, IsKernel, ItemHasNoRoom, LeadsToSpan, ListedHasNoRoom}
use Rattle.geos_kernel.specs.Spans.{IsStanding, IsWritable}
use Rattle.geos_kernel.specs.View.{IsMarked, KernelOn, kernel_of, memory_of}
use Rattle.geos_kernel.proofs.ItemCalls.{ilock-calls, ilock-stands, item-calls}
use Rattle.geos_kernel.proofs.Stops.{between-reading}
use Rattle.geos_kernel.proofs.There.{in-memory, no_group-same}

-- what the kernel promises of it
pub record LocksPart {D : Type 0} (medium : Medium D) (g i n : ℕ) (result : Result Span Refusal) (old new : KernelOn D) : Type 0 where
  pub gives : LeadsToSpan (medium.honest old.device) (ilock g i n) result old.core new.core
  pub stands : IfOk result (λ span. IsStanding new.core span × (n ≤ span.len))
  pub writable : IfOk result (λ span. IsMarked new.core g → IsWritable new.core span)
  pub locks : IsThere old.core.blocks (vm_slot g) → OnOk result (new.core.blocks ≡ with_lock_more old.core.blocks (vm_slot g))
  pub in_memory : InMemory g result old new
  pub no_room : result ≡ Err NoRoom → ListedHasNoRoom new.core g
  pub device : ReadsFile medium (result ≡ Err Disk) old new

-- a refusal of a span and one of its place have one cause
same-why : {A B : Type 0} (why : Refusal) → ◌≡◌ {A = Result A Refusal} (Err why) (Err Disk) → ◌≡◌ {A = Result B Refusal} (Err why) (Err Disk)
same-why why e = let same : why ≡ Disk = cc in ap Err same

module _ {D : Type 0} (medium : Medium D) (v w : VmState D) (s t : Store) (k : KernelOn D) (is : kernel_of medium v s ≡ k)
    (kernel : IsKernel medium v s) (known : LeavesKept medium (kernel_of medium v s)) (g : ℕ) where
  abbrev old : KernelOn D
  old = kernel_of medium v s

  abbrev new : KernelOn D
  new = kernel_of medium w t

  reads-file : {fails ends : Type 0} → (ends → fails) → (fails → ends) → w.file ≡ (with_device v w.file.device).file
      → ReadsDevice medium fails v.file w.file → ReadsFile medium ends old new
  reads-file one other same device = record {
    reads = device.reads;
    file = same;
    cause = λ good failed. device.cause good (one failed);
    counted = λ never. device.counted (λ failed. never (other failed));
    between = between-reading medium old new device.reads known device.steadily;
  }

  listed-file : {A : Type 0} (r : Result A Refusal) → w.file ≡ (with_device (listed_after r v g) w.file.device).file
      → w.file ≡ (with_device v w.file.device).file
  listed-file (Ok answer) e = e
  listed-file (Err why) e = e

  -- a refusal has listed nothing else
  no-room : {A : Type 0} (edit : List (Option (List ℕ)) → Edit A) (r : Result A Refusal) → w ≡ with_device (listed_after r v g) w.file.device
      → r ≡ Err NoRoom → LacksItemRoom v t g edit → ItemHasNoRoom new.core g edit
  no-room edit (Ok answer) same wanting lacks = absurd cc
  no-room edit (Err why) same wanting lacks =
      let entries : w.entries ≡ v.entries = ap (λ (x : VmState D). x.entries) same in
      record { none = rw entries lacks.none; no_room = rw entries lacks.no_room }

  -- a call on items
  pub item-called : {A : Type 0} (call : Call A) (edit : List (Option (List ℕ)) → Edit A) (r : Result A Refusal)
      → ChangesItem medium call edit g r v w s t
      → ((choice : Choice) (f : VmFile) → (effect_of call choice (memory_of old.core f)).stale ≡ in_group
      (given_memory choice.given (memory_of old.core f)) g) → CallsItem medium call edit g r k new
  item-called call edit r changes stale = subst (λ x. CallsItem medium call edit g r x new) is (record {
    calls = item-calls medium v w s t g kernel call edit r changes stale;
    no_room = λ wanting. no-room edit r changes.listed wanting (changes.no_room wanting);
    in_memory = in-memory medium v w s t old refl g r changes.there changes.stays changes.absent;
    no_group = no_group-same medium v w s t old refl g r changes.no_group;
    device = reads-file (λ e. e) (λ e. e) (listed-file r (ap (λ (x : VmState D). x.file) changes.listed)) changes.device;
  })

  module _ (i n : ℕ) where
    -- it lacks room
    lacks-room : (why : Refusal) → LocksItem medium g i n (Err why) v w s t → why ≡ NoRoom → ListedHasNoRoom new.core g
    lacks-room why locks e = on (held_at v g) refl (locks.no_room (ap Err e))
      where
        on : (o : Option Held) → held_at v g ≡ o → IfSome o (λ held. LacksRoom v s t (vm g) held.len) → ListedHasNoRoom new.core g
        on None none lacking =
            let not-group : IsGroup v g → ⊥ = λ is. subst (λ o. IsSomeAnd o (λ (held : Held). held.uid ≡ group_uid)) none is in
            let bad = (locks.no_group not-group).0 in
            let other : BadHandle ≡ NoRoom = (let same : why ≡ BadHandle = cc in sym same ∙ e) in absurd cc
        on (Some held) listed lacking =
            subst (λ o. IsSomeAnd o (λ held. HasNoRoomIn new.core (vm g) held.len))
            (sym (ap (λ (x : VmState D). held_at x g) locks.same ∙ listed))
            (record { none = subst (λ (x : VmState D). NoneIdle x t g) (sym locks.same) lacking.none; no_room = lacking.no_room })

    -- the item was found
    pub part-locked : (at len : ℕ) → LocksItem medium g i n (Ok (at, len)) v w s t
        → LocksPart medium g i n (Ok (record { at = place_of t (vm_slot g) + at; len = len })) k new
    part-locked at len locks =
        let span : Span = record { at = place_of t (vm_slot g) + at; len = len } in
        let ref = in_block (vm g) (record { chunk = i; start = 0; len = len }) in
        let stands = ilock-stands medium v w s t g i n at len locks in
        subst (λ x. LocksPart medium g i n (Ok span) x new) is (record {
          gives = (refers_to g i (Ok (at, len)), ilock-calls medium v w s t g kernel i n (Ok (at, len)) locks, stands);
          stands = ((ref, stands), locks.within.1);
          writable = λ marked. (ref, stands, λ file. marked);
          locks = λ was. (locks.there was).1;
          in_memory = in-memory medium v w s t old refl g (Ok span) (λ was. (ap (λ (x : VmState D). x.file) (locks.there was).0, λ e. absurd cc))
              (λ other. tt) (λ e. absurd cc);
          no_room = λ e. absurd cc;
          device = reads-file (λ e. absurd cc) (λ e. absurd cc) (ap (λ (x : VmState D). x.file) locks.same) locks.device;
        })

    -- it was refused
    pub part-refused : (why : Refusal) → LocksItem medium g i n (Err why) v w s t → LocksPart medium g i n (Err why) k new
    part-refused why locks = subst (λ x. LocksPart medium g i n (Err why) x new) is (record {
      gives = (Err why, ilock-calls medium v w s t g kernel i n (Err why) locks, refl);
      stands = tt;
      writable = tt;
      locks = λ was. tt;
      in_memory = in-memory medium v w s t old refl g (Err why)
          (λ was. (ap (λ (x : VmState D). x.file) (locks.there was).0, λ e. (locks.there was).2 (same-why why e)))
          (λ other was. locks.refused was) (λ e. locks.absent (same-why why e));
      no_room = λ e. lacks-room why locks (let same : why ≡ NoRoom = cc in same);
      device = reads-file (same-why why) (same-why why) (ap (λ (x : VmState D). x.file) locks.same) locks.device;
    })
