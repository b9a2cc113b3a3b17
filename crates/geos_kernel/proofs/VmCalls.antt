-- The calls on blocks of the file, and on the file, by what was done below.
use Rattle.std.proofs.Common.{◌≡◌, ◌∙◌, ℕ, ◌<◌, ◌⊎◌, Option, Some, None, refl, sym, ap, arith, subst, inl, inr}
use Rattle.std.specs.Prelude.{Result, Ok, Err, ◌↔◌, IfOk, IfErr, OnErr, OnOk}
use Rattle.geos_terms.specs.declared.name.Name.{Name}
use Rattle.geos_terms.specs.declared.name.Owner.TheVariants.{Vm}
use Rattle.geos_terms.specs.declared.refusal.Refusal.{Refusal}
use Rattle.geos_terms.specs.declared.refusal.Refusal.TheVariants as refusal
use Rattle.geos_terms.specs.Names.{vm as vm_name}
use Rattle.geos_calls.specs.Effects.{Call}
use Rattle.block_handles.specs.Layout.{IsLaidOut}
use Rattle.block_handles.specs.Names.{IsHandle}
use Rattle.block_handles.specs.Store.{Block, Store, block_at, locks_in, locks_of}
use Rattle.vm_file.specs.declared.commit.How.{How}
use Rattle.vm_file.specs.declared.error.CommitError.{CommitError}
use Rattle.vm_file.specs.declared.error.CommitError.TheVariants as commit
use Rattle.vm_file.specs.Committing.{IsAfter}
use Rattle.vm_file.specs.Device.{Medium, Rose}
use Rattle.vm_file.specs.State.{FileState}
use Rattle.vm_blocks.specs.declared.entries.Held.{Held}
use Rattle.vm_blocks.specs.declared.error.LockError.{LockError}
use Rattle.vm_blocks.specs.declared.error.LockError.TheVariants as lock
use Rattle.vm_blocks.specs.declared.error.NewError.{NewError}
use Rattle.vm_blocks.specs.declared.error.NewError.TheVariants as new
use Rattle.vm_blocks.specs.Blocks.{Adds, LacksRoomForNew, is_marked_in, new_held, without_held}
use Rattle.vm_blocks.specs.Bring.{Drops, Keeps, LockedMore, NotBrought}
use Rattle.vm_blocks.specs.DoesRow.{DoesRow}
use Rattle.vm_blocks.specs.Listed.{NoneLocked, StoreAfter}
use Rattle.vm_blocks.specs.Refused.{of_new}
use Rattle.vm_blocks.specs.Tied.{IsTied, TiedAt}
use Rattle.vm_blocks.specs.View.{VmState, held_at, vm_slot}
use Rattle.vm_blocks.proofs.News.{locks-new}
use Rattle.vm_blocks.proofs.Table.{held-same}
use Rattle.db_items.specs.Groups.{IsGroup, RefusesNoGroup}
use Rattle.geos_kernel.specs.Kernel.{Calls, HasRisen, IsKernel}
use Rattle.geos_kernel.specs.View.{IsLocked, IsMarked, KernelOn, core_of, kernel_of, seen, vm_over}
use Rattle.geos_kernel.proofs.Listed.{Spares, SparesMem, StaysLocked, calls-beside, commit-spares, drops-spares, keeps-spares, kernel-beside, more-locked, not-locked, same-spares, thins-spares}
use Rattle.geos_kernel.proofs.Seen.{risen, row-known}

-- a name of the file's owner
pub vm-named : (name : Name) → name.owner ≡ Vm → name ≡ vm_name name.h
vm-named name is k = record { owner = is k; h = name.h }

-- The count of failures

-- it stayed, or rose: a call fails, or it does not
pub stayed-or-rose : (good fails : Type 0) (a b : ℕ) → fails ⊎ (fails → ⊥) → (good → fails → Rose a b) → ((fails → ⊥) → b ≡ a)
    → good → (b ≡ a) ⊎ HasRisen a b
stayed-or-rose good fails a b (inl failed) cause counted g = inr (risen a b (cause g failed))
stayed-or-rose good fails a b (inr never) cause counted g = inl (counted never)

module _ {D : Type 0} (medium : Medium D) (v w : VmState D) (s t : Store) (k : IsKernel medium v s) (spares : SparesMem s t) where
  -- a call that spares blocks of global memory leaves a kernel
  pub spared-kernel : {A : Type 0} (call : Call A) (r : Result A Refusal) → IsTied medium w t → DoesRow medium call r v s w t → IsKernel medium w t
  spared-kernel call r tied row = kernel-beside medium v w s t k tied spares (row-known medium call r v s w t row k.known)

-- Calls that ask the device nothing

module _ {D : Type 0} (medium : Medium D) (v w : VmState D) (s t : Store) (file : w.file ≡ v.file) where
  pub quiet-calls : {A : Type 0} {call : Call A} {r : Result A Refusal} → DoesRow medium call r v s w t → Spares s t
      → Calls (medium.honest v.file.device) call r (core_of medium v s) (core_of medium w t)
  quiet-calls row spares =
      let device : w.file.device ≡ v.file.device = ap (λ (f : FileState D). f.device) file in
      calls-beside medium v w s t row (λ good. subst medium.honest (sym device) good) (λ good. inl (ap medium.failed device)) spares

-- and change nothing
pub told-calls : {D A : Type 0} (medium : Medium D) (v : VmState D) (s : Store) (k : KernelOn D) → kernel_of medium v s ≡ k
    → {call : Call A} {r : Result A Refusal}
    → DoesRow medium call r v s v s → Calls (medium.honest k.device) call r k.core k.core
told-calls medium v s k is {call} {r} row = subst (λ k. Calls (medium.honest k.device) call r k.core k.core) is
    (quiet-calls medium v v s s refl row (same-spares s s refl))

-- Locks

lock-disk : (r : Result (Unit {0}) LockError) → (r ≡ Err lock.Disk) ⊎ (r ≡ Err lock.Disk → ⊥)
lock-disk (Err lock.Disk) = inl refl
lock-disk (Ok done) = inr (λ e. absurd cc)
lock-disk (Err _) = inr (λ e. absurd cc)

lock-own : (s t : Store) (h : ℕ) (r : Result (Unit {0}) LockError) → OnOk r (LockedMore s t h) → OnErr r (NotBrought s t h)
    → StaysLocked s t (vm_slot h)
lock-own s t h (Ok done) ok err = more-locked s t h ok
lock-own s t h (Err why) ok err = not-locked s t h err

pub lock-spares : {D : Type 0} (v : VmState D) (s t : Store) (h : ℕ) (r : Result (Unit {0}) LockError) → Keeps v s t h
    → OnOk r (LockedMore s t h) → OnErr r (NotBrought s t h) → Spares s t
lock-spares v s t h r keeps ok err = keeps-spares v s t h keeps (lock-own s t h r ok err)

pub lock-lasts : (good : Type 0) (a b : ℕ) (r : Result (Unit {0}) LockError) → (good → r ≡ Err lock.Disk → Rose a b)
    → ((r ≡ Err lock.Disk → ⊥) → b ≡ a) → good → (b ≡ a) ⊎ HasRisen a b
lock-lasts good a b r cause counted = stayed-or-rose good (r ≡ Err lock.Disk) a b (lock-disk r) cause counted

-- New blocks

-- a block that is not listed is not locked
unlisted-free : {D : Type 0} (medium : Medium D) (v : VmState D) (s : Store) (h : ℕ) → IsTied medium v s → IsHandle h
    → held_at v h ≡ None → locks_of s (vm_slot h) ≡ 0
unlisted-free medium v s h tied p none = on (held_at v h) (block_at s (vm_slot h)) none (tied.each h p)
  where
    on : (e : Option Held) (b : Option Block) → e ≡ None → TiedAt medium v.file h e b → locks_in b ≡ 0
    on None None none t = refl
    on None (Some b) none t = absurd t
    on (Some e) b none t = absurd cc

-- a new block was made, or was not, for lack of room or of handles
pub data Made {D : Type 0} (v w : VmState D) (s t : Store) (uid n : ℕ) : Type 0 where
  IsMade : (h : ℕ) → Adds v w s t uid n h → Made v w s t uid n
  HasNoRoom : LacksRoomForNew v s t → w ≡ v → Made v w s t uid n
  HasNoHandle : t ≡ s → w ≡ v → Made v w s t uid n

module _ {D : Type 0} (medium : Medium D) (v w : VmState D) (s t : Store) (uid n : ℕ) (k : IsKernel medium v s) where
  pub made-spares : Made v w s t uid n → Spares s t
  made-spares (IsMade h adds) =
      keeps-spares v s t h adds.keeps
      (λ some. (let none = unlisted-free medium v s h k.tied adds.lowest.handle adds.lowest.free in absurd (omega (arith, some, none))))
  made-spares (HasNoRoom lacks same) = thins-spares v s t lacks.h lacks.lacks.thins
  made-spares (HasNoHandle blocks same) = same-spares s t blocks

  pub made-file : Made v w s t uid n → w.file ≡ v.file
  made-file (IsMade h adds) = ap (λ (x : VmState D). x.file) adds.state
  made-file (HasNoRoom lacks same) = ap (λ (x : VmState D). x.file) same
  made-file (HasNoHandle blocks same) = ap (λ (x : VmState D). x.file) same

  -- the same from the contract of `vm_blocks`, and for groups
  pub made-below : (r : Result ℕ NewError) → IfOk r (Adds v w s t uid n) → (r ≡ Err new.NoRoom → LacksRoomForNew v s t)
      → (r ≡ Err new.NoHandle → t ≡ s) → OnErr r (w ≡ v) → Made v w s t uid n
  made-below (Ok h) ok room stays err = IsMade h ok
  made-below (Err new.NoRoom) ok room stays err = HasNoRoom (room refl) err
  made-below (Err new.NoHandle) ok room stays err = HasNoHandle (stays refl) err

  pub made-group : (r : Result ℕ Refusal) → IfOk r (Adds v w s t uid n) → IfErr r (λ why. (why ≡ refusal.NoHandle) ⊎ (why ≡ refusal.NoRoom))
      → (r ≡ Err refusal.NoRoom → LacksRoomForNew v s t) → (r ≡ Err refusal.NoHandle → t ≡ s) → OnErr r (w ≡ v)
      → Made v w s t uid n
  made-group (Ok h) ok why room stays err = IsMade h ok
  made-group (Err e) ok (inl is) room stays err = HasNoHandle (stays (ap Err is)) err
  made-group (Err e) ok (inr is) room stays err = HasNoRoom (room (ap Err is)) err

  -- it is locked and marked
  pub made-ready : (r : Result ℕ NewError) → IfOk r (Adds v w s t uid 1)
      → IfOk (of_new r) (λ h. IsLocked (core_of medium w t) (vm_name h) × IsMarked (core_of medium w t) h)
  made-ready (Ok h) adds =
      let marked : held_at w h ≡ Some (new_held uid) = ap (λ (x : VmState D). held_at x h) adds.state
      ∙ held-same v.entries h (Some (new_held uid)) adds.lowest.handle k.tied.long in
      (omega (arith, locks-new t h 1 adds.is), ap is_marked_in marked)
  made-ready (Err why) adds = tt

-- Blocks that go

module _ {D : Type 0} (v w : VmState D) (s t : Store) (h : ℕ) {E : Type 0} where
  pub freed-spares : (r : Result (Unit {0}) E) → IsLaidOut s → OnOk r (Drops s t h) → OnErr r ((w ≡ v) × (t ≡ s))
      → OnOk r (0 < locks_of s (vm_slot h) → ⊥) → Spares s t
  freed-spares (Ok done) laid drops refused free = drops-spares v s t h laid drops free
  freed-spares (Err why) laid drops refused free = same-spares s t refused.1

  pub freed-file : (r : Result (Unit {0}) E) → OnOk r (w ≡ without_held v h) → OnErr r ((w ≡ v) × (t ≡ s)) → w.file ≡ v.file
  freed-file (Ok done) state refused = ap (λ (x : VmState D). x.file) state
  freed-file (Err why) state refused = ap (λ (x : VmState D). x.file) refused.0

pub not-locked-ok : {A E : Type 0} (r : Result A E) (why : E) (P : Type 0) → (P → r ≡ Err why) → OnOk r (P → ⊥)
not-locked-ok (Ok done) why P locked = λ p. (let e = locked p in absurd cc)
not-locked-ok (Err other) why P locked = tt

-- of a group that went: none where the handle named none
pub group-free : {D : Type 0} (r : Result (Unit {0}) Refusal) (v w : VmState D) (s t : Store) (g : ℕ)
    → RefusesNoGroup g r v w s t → (IsGroup v g → (r ≡ Err refusal.Locked) ↔ (0 < locks_of s (vm_slot g))) → OnOk r (0 < locks_of s (vm_slot g) → ⊥)
group-free (Ok done) v w s t g no_group locked = λ some.
    let none : IsGroup v g → ⊥ = λ group. (let e = (locked group).1 some in absurd cc) in
    let e = (no_group none).0 in
    absurd cc
group-free (Err why) v w s t g no_group locked = tt

-- Commits

module _ {D : Type 0} (v w : VmState D) where
  pub committed-spares : (how : How) (s t : Store) → NoneLocked s → (r : Result (Unit {0}) CommitError)
      → OnOk r (StoreAfter how s t) → OnErr r ((w ≡ record v { file = w.file }) × (t ≡ s)) → Spares s t
  committed-spares how s t none (Ok done) store refused = commit-spares how s t none store
  committed-spares how s t none (Err why) store refused = same-spares s t refused.1

  -- a refusal leaves the table, and all blocks, as they were
  pub committed-refused : (medium : Medium D) (s t : Store) (r : Result (Unit {0}) CommitError) → OnErr r ((w ≡ record v { file = w.file }) × (t ≡ s))
      → OnErr r (((core_of medium w t).vm ≡ record (core_of medium v s).vm { file = (core_of medium w t).vm.file }) × (t ≡ s))
  committed-refused medium s t (Ok done) refused = tt
  committed-refused medium s t (Err why) refused = (ap (vm_over (seen medium w.file.device)) refused.0, refused.1)

  pub committed-lasts : (failed : D → ℕ) (r : Result (Unit {0}) CommitError) → OnOk r (failed w.file.device ≡ failed v.file.device)
      → IfErr r (λ e. IsAfter e v.file w.file) → (r ≡ Err commit.Disk → Rose (failed v.file.device) (failed w.file.device))
      → (failed w.file.device ≡ failed v.file.device) ⊎ HasRisen (failed v.file.device) (failed w.file.device)
  committed-lasts failed (Ok done) ok after cause = inl ok
  committed-lasts failed (Err commit.Unsure) ok after cause = inl (ap (λ (f : FileState D). failed f.device) after)
  committed-lasts failed (Err commit.TooBig) ok after cause = inl (ap (λ (f : FileState D). failed f.device) after)
  committed-lasts failed (Err commit.Memory) ok after cause = inl (ap (λ (f : FileState D). failed f.device) after)
  committed-lasts failed (Err commit.Disk) ok after cause = inr (risen (failed v.file.device) (failed w.file.device) (cause refl))
