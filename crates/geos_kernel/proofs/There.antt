-- Calls on a block of the file that is in memory, by what was done below; and those that change nothing.
use Rattle.std.proofs.Common.{◌≡◌, ◌∙◌, ℕ, ◌<◌, Option, None, Some, refl, ap, sym, arith, subst}
use Rattle.std.specs.Prelude.{◌↔◌, IfSome, IsSomeAnd, MatchResult, OnErr, OnOk, Result, Ok, Err}
use Rattle.geos_terms.specs.Names.{vm}
use Rattle.geos_terms.specs.declared.refusal.Refusal.{Refusal}
use Rattle.geos_terms.specs.declared.refusal.Refusal.TheVariants as refusal
use Rattle.block_handles.specs.Store.{Store, IsThere, locks_of}
use Rattle.block_handles.proofs.Layouts.{there_of_locks}
use Rattle.vm_file.specs.Device.{Medium}
use Rattle.vm_file.specs.State.{FileState}
use Rattle.vm_blocks.specs.declared.entries.Held.{Held}
use Rattle.vm_blocks.specs.declared.error.LockError.{LockError}
use Rattle.vm_blocks.specs.declared.error.LockError.TheVariants as lock
use Rattle.vm_blocks.specs.Bringing.{ReadsDevice}
use Rattle.vm_blocks.specs.Refused.{of_lock}
use Rattle.vm_blocks.specs.Room.{LacksRoom, NoneIdle}
use Rattle.vm_blocks.specs.View.{VmState, held_at, vm_slot, with_device}
use Rattle.db_items.specs.Groups.{IsGroup, RefusesNoGroup}
use Rattle.geos_kernel.specs.Files.{AsksNothing, InMemory, LeavesKept, ReadsFile}
use Rattle.geos_kernel.specs.Kernel.{HasNoRoomIn, ListedHasNoRoom}
use Rattle.geos_kernel.specs.View.{KernelOn, core_of, file_over, kernel_of, seen}
use Rattle.geos_kernel.proofs.Stops.{between-reading}

on-there : {A : Type 0} (r : Result A Refusal) (P Q : Type 0) → OnErr r (P → Q) → P → OnErr r Q
on-there (Ok answer) P Q stays there = tt
on-there (Err why) P Q stays there = stays there

module _ {D : Type 0} (medium : Medium D) (v w : VmState D) (s t : Store) (k : KernelOn D) (is : kernel_of medium v s ≡ k) where
  pub in-memory : {A : Type 0} (h : ℕ) (r : Result A Refusal) → (IsThere s (vm_slot h) → (w.file ≡ v.file) × (r ≡ Err refusal.Disk → ⊥))
      → ((r ≡ Err refusal.NoRoom → ⊥) → OnErr r (IsThere s (vm_slot h) → t ≡ s))
      → (r ≡ Err refusal.Disk → IsThere t (vm_slot h) → ⊥) → InMemory h r k (kernel_of medium w t)
  in-memory h r there stays absent = subst (λ x. InMemory h r x (kernel_of medium w t)) is (record {
    there = λ was. (let file = (there was).0 in (
      record { device = ap (λ (f : FileState D). f.device) file; file = ap (λ (f : FileState D). file_over (seen medium f.device) f) file },
      (there was).1,
    ));
    refused = λ was other. on-there r (IsThere s (vm_slot h)) (t ≡ s) (stays other) was;
    absent = absent;
  })

  pub asks-nothing : w.file ≡ v.file → AsksNothing k (kernel_of medium w t)
  asks-nothing file = subst (λ x. AsksNothing x (kernel_of medium w t)) is
      (record { device = ap (λ (f : FileState D). f.device) file; file = ap (λ (f : FileState D). file_over (seen medium f.device) f) file })

  pub nothing-changed : w ≡ v → t ≡ s → kernel_of medium w t ≡ k
  nothing-changed vm blocks = ap (λ x. kernel_of medium x t) vm ∙ ap (kernel_of medium v) blocks ∙ is

  -- A lock

  module _ (h : ℕ) (more : Type 0) where
    abbrev IfThere : Result (Unit {0}) LockError → Type 0
    IfThere r = IsThere s (vm_slot h) → (w ≡ v) × MatchResult r (λ _. more) (λ why. (why ≡ lock.Locked) × (t ≡ s))

    no-disk : (r : Result (Unit {0}) LockError) → MatchResult r (λ _. more) (λ why. (why ≡ lock.Locked) × (t ≡ s)) → of_lock r ≡ Err refusal.Disk → ⊥
    no-disk (Err lock.Disk) m e = absurd (let other = m.0 in cc)
    no-disk (Ok done) m e = absurd cc
    no-disk (Err _) m e = absurd cc

    disk-so : (r : Result (Unit {0}) LockError) → of_lock r ≡ Err refusal.Disk → r ≡ Err lock.Disk
    disk-so (Err lock.Disk) e = refl
    disk-so (Ok done) e = absurd cc
    disk-so (Err _) e = absurd cc

    lock-stays : (r : Result (Unit {0}) LockError) → IfThere r → OnErr (of_lock r) (IsThere s (vm_slot h) → t ≡ s)
    lock-stays (Ok done) there = tt
    lock-stays (Err why) there = λ was. (there was).1.1

    pub lock-in_memory : (r : Result (Unit {0}) LockError) → IfThere r → (r ≡ Err lock.Disk → IsThere t (vm_slot h) → ⊥)
        → InMemory h (of_lock r) k (kernel_of medium w t)
    lock-in_memory r there absent = in-memory h (of_lock r) (λ was. (ap (λ (x : VmState D). x.file) (there was).0, no-disk r (there was).1))
        (λ other. lock-stays r there) (λ e. absent (disk-so r e))

    pub lock-more : (r : Result (Unit {0}) LockError) → IfThere r → IsThere s (vm_slot h) → OnOk (of_lock r) more
    lock-more (Ok done) there was = (there was).1
    lock-more (Err why) there was = tt

    room-so : (r : Result (Unit {0}) LockError) → of_lock r ≡ Err refusal.NoRoom → r ≡ Err lock.NoRoom
    room-so (Err lock.NoRoom) e = refl
    room-so (Ok done) e = absurd cc
    room-so (Err _) e = absurd cc

    -- what it reads of the device
    pub lock-device : (r : Result (Unit {0}) LockError) → LeavesKept medium (kernel_of medium v s)
        → w ≡ with_device v w.file.device → ReadsDevice medium (r ≡ Err lock.Disk) v.file w.file
        → ReadsFile medium (of_lock r ≡ Err refusal.Disk) k (kernel_of medium w t)
    lock-device r known same device = subst (λ x. ReadsFile medium (of_lock r ≡ Err refusal.Disk) x (kernel_of medium w t)) is (record {
      reads = device.reads;
      file = ap (λ (x : VmState D). x.file) same;
      cause = λ good failed. device.cause good (disk-so r failed);
      counted = λ never. device.counted (λ failed. never (ap of_lock failed));
      between = between-reading medium (kernel_of medium v s) (kernel_of medium w t) device.reads known device.steadily;
    })

    -- where it has no room
    pub lock-no_room : (r : Result (Unit {0}) LockError) → w ≡ with_device v w.file.device
        → ((r ≡ Err lock.BadHandle) ↔ (held_at v h ≡ None)) → (r ≡ Err lock.NoRoom → IfSome (held_at v h) (λ held. LacksRoom v s t (vm h) held.len))
        → of_lock r ≡ Err refusal.NoRoom → ListedHasNoRoom (core_of medium w t) h
    lock-no_room r same bad lacks e = on (held_at v h) refl (lacks (room-so r e))
      where
        on : (o : Option Held) → held_at v h ≡ o → IfSome o (λ held. LacksRoom v s t (vm h) held.len) → ListedHasNoRoom (core_of medium w t) h
        on None none lacking = let why = bad.1 none in let other = room-so r e in absurd cc
        on (Some held) listed lacking =
            subst (λ o. IsSomeAnd o (λ held. HasNoRoomIn (core_of medium w t) (vm h) held.len))
            (sym (ap (λ (x : VmState D). held_at x h) same ∙ listed))
            (record { none = subst (λ (x : VmState D). NoneIdle x t h) (sym same) lacking.none; no_room = lacking.no_room })

    -- a refusal for another reason than room or the device
    pub lock-refused : (r : Result (Unit {0}) LockError) → IfThere r → (r ≡ Err lock.BadHandle → (w ≡ v) × (t ≡ s))
        → (r ≡ Err lock.Locked → locks_of s (vm_slot h) ≡ 65535)
        → (of_lock r ≡ Err refusal.NoRoom → ⊥) → (of_lock r ≡ Err refusal.Disk → ⊥) → OnErr (of_lock r) (kernel_of medium w t ≡ k)
    lock-refused (Ok done) there bad full room disk = tt
    lock-refused (Err lock.BadHandle) there bad full room disk = nothing-changed (bad refl).0 (bad refl).1
    lock-refused (Err lock.Locked) there bad full room disk =
        let some : 0 < locks_of s (vm_slot h) = omega (arith, full refl) in
        let was = there (there_of_locks s (vm_slot h) some) in
        nothing-changed was.0 was.1.1
    lock-refused (Err lock.NoRoom) there bad full room disk = absurd (room refl)
    lock-refused (Err lock.Disk) there bad full room disk = absurd (disk refl)

  -- A group

  pub no_group-same : {A : Type 0} (g : ℕ) (r : Result A Refusal) → RefusesNoGroup g r v w s t → (IsGroup k.core.vm g → ⊥) → kernel_of medium w t ≡ k
  no_group-same g r no_group none = let refused = no_group (λ group. none (subst (λ (x : KernelOn D). IsGroup x.core.vm g) is group)) in
      nothing-changed refused.1 refused.2
