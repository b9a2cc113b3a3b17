-- The calls that lock, unlock and free a block.
use Rattle.std.proofs.Common.{◌≡◌, ◌≢◌, ℕ, zero, suc, ◌<◌, ◌≤◌, ◌+◌, ◌-◌, Bool, [], ◌∷◌, true, false, Some, None, Decides, refl, sym, ap, ◌∙◌, arith, subst, inl, inr}
use Rattle.std.specs.Prelude.{Result, Ok, Err, ◌↔◌, OnOk, OnErr, IfSome, is_none, nat_lt, ◌==◌, if◌then◌else◌}
use Rattle.std.proofs.lemmas.Bool.{cases_eq}
use Rattle.std.proofs.lemmas.Bool.Decides.{Decides-eqb, Decides-ltb}
use Rattle.std.proofs.lemmas.List.{get_or-set_other}
use Rattle.geos_terms.specs.declared.name.Name.{Name}
use Rattle.geos_terms.specs.declared.name.Owner.{Owner}
use Rattle.geos_terms.specs.declared.name.Owner.TheVariants.{Mem, Vm}
use Rattle.geos_terms.specs.Names.{mem, named}
use Rattle.geos_calls.specs.Blocks.{locked_block}
use Rattle.geos_calls.specs.Legal.{IsLegalBlock}
use Rattle.geos_calls.specs.Memory as model
use Rattle.geos_calls.specs.Memory.{Memory}
use Rattle.geos_calls.specs.VmFile.{VmFile}
use Rattle.geos_terms.specs.declared.refusal.Refusal.TheVariants.{BadHandle, Locked}
use Rattle.geos_calls.specs.Effects.{Call, Reference, Nothing, InBlock, OfLock, unchanged}
use Rattle.geos_calls.specs.Calls as table
use Rattle.block_handles.specs.declared.error.HandleError.{HandleError}
use Rattle.block_handles.specs.declared.error.HandleError.TheVariants as handle
use Rattle.block_handles.specs.Names.{IsHandle, slot_of}
use Rattle.block_handles.specs.Store as store
use Rattle.block_handles.specs.Store.{Block, Store}
use Rattle.block_handles.specs.Change as change
use Rattle.block_handles.proofs.Laws.{handle_of_there, laid-with_locks, laid-without, with_block-same, with_block-other, with_locks-same, with_locks-other}
use Rattle.block_handles.proofs.Layouts.{there_of_locks, there_small}
use Rattle.vm_file.specs.Device.{Medium}
use Rattle.vm_blocks.specs.DoesRow.{DoesRow}
use Rattle.vm_blocks.specs.FileOf.{IsMemoryOf}
use Rattle.vm_blocks.specs.Spelled.{block_in, spelled}
use Rattle.vm_blocks.specs.Tied.{IsTied}
use Rattle.vm_blocks.specs.View.{VmState}
use Rattle.vm_blocks.proofs.Counts.{locked-tied}
use Rattle.geos_kernel.specs.declared.span.Span.{Span}
use Rattle.geos_kernel.specs.View.{KernelState, core_of, memory_of, IsFileOf}
use Rattle.geos_kernel.specs.Spans.{Stands, SpansStay}
use Rattle.geos_kernel.specs.Kernel.{IsKernel, Calls}
use Rattle.geos_kernel.specs.Refused.{of_handle}
use Rattle.chunk_calls.specs.Others.{KeepsBut}
use Rattle.chunk_calls.proofs.Kept.{mem-changed, mem-tied, named-changed}
use Rattle.chunk_calls.proofs.Named.{locks-known, there-known}
use Rattle.chunk_calls.proofs.Rows.{there-is}
use Rattle.geos_kernel.proofs.Changed.{slot-keeps}
use Rattle.geos_kernel.proofs.Named.{block-absent, named-legal, other-slot}
use Rattle.geos_kernel.proofs.Rowed.{does-willing, row-calls}
use Rattle.geos_kernel.proofs.Seen.{memory-known}
use Rattle.geos_kernel.proofs.Stays.{Same, kernel-on, spans-same, stands-on, stands-same}

-- what the blocks ensure of a call on a slot: it succeeds if there is a block and its count does not forbid the call,
-- and then leaves these blocks; otherwise it leaves the blocks as they were
abbrev pub DoesSlot : (ℕ → Type 0) → Store → Store → Store → ℕ → Result (Unit {0}) HandleError → Type 0
DoesSlot Forbidden after old new slot r =
    OnOk r (store.IsThere old slot) × OnOk r (new ≡ after)
    × ((r ≡ Err handle.BadHandle) ↔ (store.IsThere old slot → ⊥)) × ((r ≡ Err handle.Locked) ↔ Forbidden (store.locks_of old slot))
    × OnErr r (new ≡ old)

-- what `lock` ensures of a slot
abbrev pub LocksSlot : Store → Store → ℕ → Result (Unit {0}) HandleError → Type 0
LocksSlot old new slot r = DoesSlot (λ n. n ≡ 65535) (change.with_lock_more old slot) old new slot r

-- what `free` ensures of a slot
abbrev pub FreesSlot : Store → Store → ℕ → Result (Unit {0}) HandleError → Type 0
FreesSlot old new slot r = DoesSlot (λ n. 0 < n) (change.without old slot) old new slot r

-- Another count of locks

module _ {D : Type 0} (medium : Medium D) (v : VmState D) (s : Store) (name : Name) (k : IsKernel medium v s) where
  abbrev slot : ℕ
  slot = slot_of name

  abbrev relocked : ℕ → Store
  relocked n = change.with_locks s slot n

  abbrev core : Store → KernelState
  core t = core_of medium v t

  has-handle : store.IsThere s slot → IsHandle name.h
  has-handle there = handle_of_there s s name refl k.laid there

  relocked-own : (n : ℕ) → store.IsThere s slot → store.block_at (relocked n) slot ≡ change.block_with_locks s slot n
  relocked-own n there = let small = there_small s slot k.laid there in with_locks-same s slot n (omega (arith, small, k.laid.slots))

  relocked-keeps : (n : ℕ) → store.IsThere s slot → KeepsBut v s (relocked n) name
  relocked-keeps n there = slot-keeps s (relocked n) name (change.block_with_locks s slot n) refl v (λ j ne some. refl)
      (laid-with_locks s k.laid slot there n) refl

  relocked-memory : (m : Memory) (n : ℕ) → n ≤ 65535 → store.IsThere s slot → IsMemoryOf medium v s m
      → IsMemoryOf medium v (relocked n) (model.with_locks m name n)
  relocked-memory m n few there is =
      let b : Block = record { locks = store.locks_of s slot; bytes = store.bytes_of s slot } in
      let c : Block = record { locks = n; bytes = store.bytes_of s slot } in
      let at = there-is (store.block_at s slot) there in
      let legal : name.owner ≡ Vm → IsLegalBlock (spelled n (store.bytes_of s slot)) =
      λ e. (let l = named-legal medium v s m k.tied is name e b at in record { heap = l.heap; few = few }) in
      named-changed medium v s (relocked n) name k.tied (relocked-keeps n there) m is b c at (relocked-own n there) (locked_block n) refl legal

  -- the same where a row says the new count by the old one
  recounted-memory : (count : ℕ → ℕ) → count (store.locks_of s slot) ≤ 65535 → store.IsThere s slot → (m : Memory) → IsMemoryOf medium v s m
      → IsMemoryOf medium v (relocked (count (store.locks_of s slot))) (model.with_locks m name (count (model.locks_of m name)))
  recounted-memory count few there m is =
      let n : ℕ = count (store.locks_of s slot) in
      subst (λ old. IsMemoryOf medium v (relocked n) (model.with_locks m name (count old)))
      (sym (locks-known medium v s k.tied m is name)) (relocked-memory m n few there is)

  -- every other block is as it was, and lies where it lay
  relocked-other : (n j : ℕ) → j ≢ slot → store.block_at (relocked n) j ≡ store.block_at s j
  relocked-other n j ne = with_locks-other s slot n j ne

  stands-own : (n : ℕ) (span : Span) (ref : Reference) → 0 < n → store.IsThere s slot → slot_of ref.name ≡ slot
      → Stands (core s) span ref → Stands (core (relocked n)) span ref
  stands-own n span ref some there same st =
      let new = relocked n in
      let bytes : store.bytes_of new (slot_of ref.name) ≡ store.bytes_of s (slot_of ref.name) =
      ap (store.bytes_of new) same ∙ ap store.bytes_in (relocked-own n there) ∙ sym (ap (store.bytes_of s) same) in
      let locks : store.locks_of new (slot_of ref.name) ≡ n = ap (store.locks_of new) same ∙ ap store.locks_in (relocked-own n there) in
      stands-on (core s) (core new) span ref bytes (rw locks some) refl st

  stands-other : (n : ℕ) (span : Span) (ref : Reference) → slot_of ref.name ≢ slot → Stands (core s) span ref → Stands (core (relocked n)) span ref
  stands-other n span ref apart st = stands-same (core s) (core (relocked n)) span ref (relocked-other n (slot_of ref.name) apart) refl st

  -- blocks of the file stay tied
  relocked-tied : (n : ℕ) → store.IsThere s slot → IsTied medium v (relocked n)
  relocked-tied n there = on name.owner name.h (has-handle there) there
    where
      on : (owner : Owner) (h : ℕ) → IsHandle h → store.IsThere s (slot_of (named owner h))
          → IsTied medium v (change.with_locks s (slot_of (named owner h)) n)
      on Mem h q there =
          let u = change.with_locks s (slot_of (mem h)) n in
          mem-tied medium v s u h q k.tied (slot-keeps s u (mem h) (change.block_with_locks s (slot_of (mem h)) n) refl v
          (λ j ne some. refl) (laid-with_locks s k.laid (slot_of (mem h)) there n) refl)
      on Vm h q there = locked-tied medium v s (change.with_locks s (slot_of (named Vm h)) n) h n q k.tied there refl

  relocked-counts : (n : ℕ) → n ≤ 65535 → store.IsThere s slot → (other : Name) → store.locks_of (relocked n) (slot_of other) ≤ 65535
  relocked-counts n few there other = elim (cases_eq (slot_of other) (slot_of name)) [
    | inl e ↦ omega (arith, few, ap (store.locks_of (relocked n)) e, ap store.locks_in (relocked-own n there))
    | inr ne ↦ omega (arith, ap store.locks_in (relocked-other n (slot_of other) ne), k.few other)
  ]

  relocked-same : (n : ℕ) → store.IsThere s slot → (j : ℕ) → Same s (relocked n) j
  relocked-same n there j = elim (cases_eq j (slot_of name)) [
    | inl e ↦ inr (
      ap (store.bytes_of (relocked n)) e ∙ ap store.bytes_in (relocked-own n there)
          ∙ sym (ap (store.bytes_of s) e),
      λ t. subst (store.IsThere s) (sym e) there,
    )
    | inr ne ↦ inr (ap store.bytes_in (relocked-other n j ne), λ t. subst store.IsBlock (relocked-other n j ne) t)
  ]

  -- the blocks still are a kernel's
  relocked-kernel : (n : ℕ) → n ≤ 65535 → store.IsThere s slot → IsKernel medium v (relocked n)
  relocked-kernel n few there =
      let f = k.known in
      let after = relocked-memory (memory_of (core s) f.0) n few there (record { blocks = refl; file = f.1; region = refl; handles = refl }) in
      kernel-on medium v s (relocked n) k (relocked-tied n there) ((model.with_locks (memory_of (core s) f.0) name n).file, after.file)
      refl (relocked-same n there) (relocked-counts n few there)

  -- while a block is locked, its spans stay, and so do all others
  lock-spans : (f : VmFile) (n : ℕ) → 0 < n → store.IsThere s slot → SpansStay (core s) (core (relocked n)) f Nothing
  lock-spans f n some there span ref st fresh = elim (cases_eq (slot_of ref.name) slot) [
    | inl same ↦ stands-own n span ref some there same st
    | inr apart ↦ stands-other n span ref apart st
  ]

  -- when a block is locked no more, the spans in all others stay
  unlock-spans : (f : VmFile) (n : ℕ) → store.IsThere s slot → SpansStay (core s) (core (relocked n)) f (InBlock name)
  unlock-spans f n there span ref st fresh = stands-other n span ref
      (other-slot s ref.name name k.laid (there_of_locks s (slot_of ref.name) st.locked) there fresh) st

  -- an unlock
  given-back : (f : VmFile) (n : ℕ) → model.locks_of (memory_of (core s) f) name ≡ n + 1 → store.IsThere s slot
      → SpansStay (core s) (core (relocked n)) f (OfLock name)
  given-back f zero one there span ref st fresh =
      let last : IfSome (if model.locks_of (memory_of (core s) f) name == 1 then Some name else None) (λ other. ref.name ≢ other) = fresh in
      unlock-spans f 0 there span ref st (subst (λ n. IfSome (if n == 1 then Some name else None) (λ other. ref.name ≢ other)) one last)
  given-back f (suc n) one there span ref st fresh = lock-spans f (suc n) (omega arith) there span ref st tt

  module _ (t : Store) (locked : 0 < store.locks_of s slot) (e : t ≡ change.with_lock_less s slot) where
    held : store.IsThere s slot
    held = there_of_locks s slot locked

    unlock-row : DoesRow medium (table.unlock name) (Ok tt) v s v t
    unlock-row = does-willing medium (table.unlock name) (Ok tt) v s t (λ m is.
        let new = model.with_locks m name (model.locks_of m name - 1) in
        let after = recounted-memory (λ n. n - 1) (omega (arith, k.few name)) held m is in
        (new, subst (λ u. IsMemoryOf medium v u new) (sym e) after, refl))

    unlock-stays : (f : VmFile) → IsFileOf (medium.honest v.file.device) (core s) f → SpansStay (core s) (core t) f (OfLock name)
    unlock-stays f tied =
        let n : ℕ = store.locks_of s slot - 1 in
        let is = memory-known medium v s f tied in
        let one : model.locks_of (memory_of (core s) f) name ≡ n + 1 =
        omega (arith, locks-known medium v s k.tied (memory_of (core s) f) is name, locked) in
        subst (λ u. SpansStay (core s) (core u) f (OfLock name)) (sym e) (given-back f n one held)

    pub unlock-calls : Calls (medium.honest v.file.device) (table.unlock name) (Ok tt) (core s) (core t)
    unlock-calls = row-calls medium (table.unlock name) (Ok tt) v s t unlock-row (λ f tied choice. unlock-stays f tied)

    pub unlock-kernel : IsKernel medium v t
    unlock-kernel = subst (IsKernel medium v) (sym e) (relocked-kernel (store.locks_of s slot - 1) (omega (arith, k.few name)) held)

-- Calls on a block of global memory as a whole

-- such a call, by its row: it is refused if there is no block, or if a test of the count forbids it; otherwise it
-- changes memory
abbrev on_whole : (ℕ → Bool) → (Memory → Name → Memory) → ℕ → Call (Unit {0})
on_whole is_forbidden changed h choice memory = record {
  refusals = (is_none (model.block_of memory (mem h)), BadHandle) ∷ (is_forbidden (model.locks_of memory (mem h)), Locked) ∷ [];
  left = unchanged memory;
  after = changed memory (mem h);
  answer = tt;
  stale = Nothing;
}

-- what is so of the blocks after it, where it is done: they are what memory after it is, each span
-- stays, and they still are a kernel's
record LeavesBlocks {D : Type 0} (medium : Medium D) (v : VmState D) (s after : Store) (changed : Memory → Memory) : Type 0 where
  memory : (m : Memory) → IsMemoryOf medium v s m → IsMemoryOf medium v after (changed m)
  spans : (f : VmFile) → SpansStay (core_of medium v s) (core_of medium v after) f Nothing
  kernel : IsKernel medium v after

-- a test of a false proposition returns false
unforbidden : {P : Type 0} (b : Bool) → Decides b P → (P → ⊥) → b ≡ false
unforbidden true d never = absurd (never (d.0 refl))
unforbidden false d never = refl

ok_err : {x : Unit {0}} {e : HandleError} → (◌≡◌ {A = Result (Unit {0}) HandleError} (Ok x) (Err e)) → ⊥
ok_err e = absurd cc

module _ {D : Type 0} (medium : Medium D) (v : VmState D) (s : Store) (h : ℕ) (k : IsKernel medium v s) where
  abbrev mem_slot : ℕ
  mem_slot = slot_of (mem h)

  abbrev sees : Store → KernelState
  sees t = core_of medium v t

  -- the count that the model has
  counts-told : (m : Memory) → IsMemoryOf medium v s m → model.locks_of m (mem h) ≡ store.locks_of s mem_slot
  counts-told m is = locks-known medium v s k.tied m is (mem h)

  there-told : (m : Memory) → IsMemoryOf medium v s m → store.IsThere s mem_slot → is_none (model.block_of m (mem h)) ≡ false
  there-told m is there = ap is_none (there-known medium v s k.tied m is (mem h) there)

  module _ (is_forbidden : ℕ → Bool) (Forbidden : ℕ → Type 0) (decides : (n : ℕ) → Decides (is_forbidden n) (Forbidden n))
      (locked : (n : ℕ) → Forbidden n → 0 < n)
      (changed : Memory → Name → Memory) (after : Store) (leaves : store.IsThere s mem_slot → (Forbidden (store.locks_of s mem_slot) → ⊥)
      → LeavesBlocks medium v s after (λ m. changed m (mem h))) where
    abbrev call : Call (Unit {0})
    call = on_whole is_forbidden changed h

    whole-row : (t : Store) (r : Result (Unit {0}) HandleError) → DoesSlot Forbidden after s t mem_slot r → DoesRow medium call (of_handle r) v s v t
    whole-row t (Ok done) (there, ok, bad, full, err) = does-willing medium call (Ok tt) v s t (λ m is.
        let free : Forbidden (store.locks_of s mem_slot) → ⊥ = λ f. ok_err (full.1 f) in
        let some = there-told m is there in
        let fine = ap is_forbidden (counts-told m is) ∙ unforbidden (is_forbidden (store.locks_of s mem_slot))
        (decides (store.locks_of s mem_slot)) free in
        (changed m (mem h), subst (λ u. IsMemoryOf medium v u (changed m (mem h))) (sym ok) ((leaves there free).memory m is), rw (some, fine) refl))
    whole-row t (Err handle.BadHandle) (there, ok, bad, full, err) = does-willing medium call (Err BadHandle) v s t (λ m is.
        let none = block-absent medium v s m k.tied is h (bad.0 refl) in
        (m, subst (λ u. IsMemoryOf medium v u m) (sym err) is, rw none refl))
    whole-row t (Err handle.Locked) (there, ok, bad, full, err) = does-willing medium call (Err Locked) v s t (λ m is.
        let some = there-told m is (there_of_locks s mem_slot (locked (store.locks_of s mem_slot) (full.0 refl))) in
        let forbids = ap is_forbidden (counts-told m is) ∙ (decides (store.locks_of s mem_slot)).1 (full.0 refl) in
        (m, subst (λ u. IsMemoryOf medium v u m) (sym err) is, rw (some, forbids) refl))

    whole-spans : (t : Store) (r : Result (Unit {0}) HandleError) → DoesSlot Forbidden after s t mem_slot r → (f : VmFile)
        → SpansStay (sees s) (sees t) f Nothing
    whole-spans t (Ok done) (there, ok, bad, full, err) f = subst (λ u. SpansStay (sees s) (sees u) f Nothing) (sym ok)
        ((leaves there (λ f. ok_err (full.1 f))).spans f)
    whole-spans t (Err e) (there, ok, bad, full, err) f = spans-same (sees s) (sees t) f Nothing err

    whole-kernel : (t : Store) (r : Result (Unit {0}) HandleError) → DoesSlot Forbidden after s t mem_slot r → IsKernel medium v t
    whole-kernel t (Ok done) (there, ok, bad, full, err) = subst (IsKernel medium v) (sym ok) (leaves there (λ f. ok_err (full.1 f))).kernel
    whole-kernel t (Err e) (there, ok, bad, full, err) = subst (IsKernel medium v) (sym err) k

    -- the blocks still are a kernel's, and the call answers as its row says
    whole-done : (t : Store) (r : Result (Unit {0}) HandleError) → DoesSlot Forbidden after s t mem_slot r
        → IsKernel medium v t × Calls (medium.honest v.file.device) call (of_handle r) (sees s) (sees t)
    whole-done t r does = (
      whole-kernel t r does,
      row-calls medium call (of_handle r) v s t (whole-row t r does)
          (λ f tied choice. whole-spans t r does f),
    )

  -- A block that is locked once more

  more : (n : ℕ) → n ≤ 65535 → (n ≡ 65535 → ⊥) → n + 1 ≤ 65535
  more n few ne = elim (cases_eq n 65535) [ inl e ↦ absurd (ne e) | inr less ↦ omega (arith, few, less) ]

  lock-leaves : store.IsThere s mem_slot → (store.locks_of s mem_slot ≡ 65535 → ⊥)
      → LeavesBlocks medium v s (change.with_lock_more s mem_slot) (λ m. model.with_locks m (mem h) (model.locks_of m (mem h) + 1))
  lock-leaves there free =
      let few = more (store.locks_of s mem_slot) (k.few (mem h)) free in
      record {
        memory = recounted-memory medium v s (mem h) k (λ n. n + 1) few there;
        spans = λ f. lock-spans medium v s (mem h) k f (store.locks_of s mem_slot + 1) (omega arith) there;
        kernel = relocked-kernel medium v s (mem h) k (store.locks_of s mem_slot + 1) few there;
      }

  pub lock-done : (t : Store) (r : Result (Unit {0}) HandleError) → LocksSlot s t mem_slot r → IsKernel medium v t
      × Calls (medium.honest v.file.device) (table.mlock h) (of_handle r) (sees s) (sees t)
  lock-done = whole-done (λ n. n == 65535) (λ n. n ≡ 65535) (λ n. Decides-eqb n 65535) (λ n is. omega (arith, is))
      (λ m name. model.with_locks m name (model.locks_of m name + 1)) (change.with_lock_more s mem_slot) lock-leaves

  -- A block that goes

  abbrev gone : Store
  gone = change.without s mem_slot

  unlocked : (n : ℕ) → (0 < n → ⊥) → n ≡ 0
  unlocked zero f = refl
  unlocked (suc n) f = absurd (f (omega arith))

  gone-own : store.IsThere s mem_slot → store.block_at gone mem_slot ≡ None
  gone-own there = let small = there_small s mem_slot k.laid there in with_block-same s mem_slot None 0 (omega (arith, small, k.laid.slots))

  gone-keeps : store.IsThere s mem_slot → KeepsBut v s gone (mem h)
  gone-keeps there = slot-keeps s gone (mem h) None refl v (λ j ne some. get_or-set_other s.places mem_slot j 0 0 ne)
      (laid-without s k.laid mem_slot there) refl

  gone-memory : store.IsThere s mem_slot → (m : Memory) → IsMemoryOf medium v s m → IsMemoryOf medium v gone (model.with_block m (mem h) None)
  gone-memory there m is = mem-changed medium v s gone h (handle_of_there s s (mem h) refl k.laid there) k.tied
      (gone-keeps there) m is None (sym (ap block_in (gone-own there)))

  -- it takes no span with it, since it is not locked
  gone-spans : (f : VmFile) → store.locks_of s mem_slot ≡ 0 → SpansStay (sees s) (sees gone) f Nothing
  gone-spans f none span ref st fresh =
      let apart : slot_of ref.name ≢ mem_slot = λ same. absurd (omega (arith, st.locked, ap (store.locks_of s) same, none)) in
      stands-same (sees s) (sees gone) span ref (with_block-other s mem_slot None 0 (slot_of ref.name) apart)
      (get_or-set_other s.places mem_slot (slot_of ref.name) 0 0 apart) st

  gone-same : store.IsThere s mem_slot → (j : ℕ) → Same s gone j
  gone-same there j = elim (cases_eq j (slot_of (mem h))) [
    | inl e ↦ inl (ap (store.block_at gone) e ∙ gone-own there)
    | inr ne ↦ (let is = with_block-other s mem_slot None 0 j ne in inr (ap store.bytes_in is, λ t. subst store.IsBlock is t))
  ]

  gone-counts : store.IsThere s mem_slot → (other : Name) → store.locks_of gone (slot_of other) ≤ 65535
  gone-counts there other = elim (cases_eq (slot_of other) (slot_of (mem h))) [
    | inl e ↦ omega (arith, ap (store.locks_of gone) e, ap store.locks_in (gone-own there))
    | inr ne ↦ omega (arith, ap store.locks_in (with_block-other s mem_slot None 0 (slot_of other) ne), k.few other)
  ]

  gone-kernel : store.IsThere s mem_slot → IsKernel medium v gone
  gone-kernel there =
      let q = handle_of_there s s (mem h) refl k.laid there in
      let tied = mem-tied medium v s gone h q k.tied (gone-keeps there) in
      let f = k.known in
      let after = gone-memory there (memory_of (sees s) f.0) (record { blocks = refl; file = f.1; region = refl; handles = refl }) in
      kernel-on medium v s gone k tied (f.0, after.file) refl (gone-same there) (gone-counts there)

  gone-leaves : store.IsThere s mem_slot → (0 < store.locks_of s mem_slot → ⊥) → LeavesBlocks medium v s gone (λ m. model.with_block m (mem h) None)
  gone-leaves there free = record {
    memory = gone-memory there;
    spans = λ f. gone-spans f (unlocked (store.locks_of s mem_slot) free);
    kernel =
        gone-kernel there;
  }

  pub free-done : (t : Store) (r : Result (Unit {0}) HandleError) → FreesSlot s t mem_slot r → IsKernel medium v t
      × Calls (medium.honest v.file.device) (table.mfree h) (of_handle r) (sees s) (sees t)
  free-done = whole-done (λ n. nat_lt 0 n) (λ n. 0 < n) (λ n. Decides-ltb 0 n) (λ n some. some)
      (λ m name. model.with_block m name None) gone gone-leaves
