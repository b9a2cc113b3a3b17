-- Calls on blocks of the file that are no groups do their rows.
use Rattle.std.proofs.Common.{◌≡◌, ◌≢◌, ◌∙◌, ℕ, List, [], ◌∷◌, Bool, Option, Some, None, true, false, refl, ap, arith}
use Rattle.std.specs.Prelude.{◌==◌, ◌&&◌, ◌+◌, not, is_none, is_some, unwrap_or, option_map, Result, Err}
use Rattle.std.proofs.lemmas.Bool.Decides.{nat_tests}
use Rattle.geos_terms.specs.declared.name.Owner.TheVariants.{Vm}
use Rattle.geos_terms.specs.declared.refusal.Refusal.{Refusal}
use Rattle.geos_terms.specs.declared.refusal.Refusal.TheVariants as refusal
use Rattle.geos_terms.specs.Names.{vm, group_uid}
use Rattle.geos_terms.specs.Refusals.{first_refusal}
use Rattle.geos_calls.specs.Calls.{is_in_use, locks_full}
use Rattle.geos_calls.specs.Directories.{VmBlock}
use Rattle.geos_calls.specs.Effects.{Call, Choice, bringing, cannot_make, come_to, unchanged}
use Rattle.geos_calls.specs.Given.{given_memory}
use Rattle.geos_calls.specs.Memory.{Memory, is_group, listed_at, locks_of, lowest_handle, with_listed, with_locks}
use Rattle.geos_calls.specs.VmCalls.{does, free_listed, is_reserved, lock_listed, names_group, new_listed, no_listed, vfind, vfree, vlock, vnew, vsetmap, without_listed}
use Rattle.block_handles.specs.Store.{Store}
use Rattle.vm_file.specs.Device.{Medium}
use Rattle.vm_blocks.specs.declared.entries.Held.{Held}
use Rattle.vm_blocks.specs.Blocks.{uid_of}
use Rattle.vm_blocks.specs.DoesRow.{DoesRow}
use Rattle.vm_blocks.specs.ListedCalls.{make_listed}
use Rattle.vm_blocks.specs.Tied.{IsTied}
use Rattle.vm_blocks.specs.View.{VmState, held_at}
use Rattle.vm_blocks.proofs.BringRows.{chosen}
use Rattle.vm_blocks.proofs.Told.{uid-told}
use Rattle.db_items.specs.Groups.{IsGroup}
use Rattle.db_items.proofs.Told.{group-listed, group-told, is_group-given, no_group-told}

-- what has no user ID is not listed
no-uid : (o : Option Held) (l : Option VmBlock) → o ≡ None → option_map (λ (x : VmBlock). x.uid) l ≡ option_map uid_of o → is_none l ≡ true
no-uid None None none told = refl
no-uid None (Some l) none told = absurd cc
no-uid (Some e) l none told = absurd cc

-- what is none is not some
pub not-some : {X : Type 0} (o : Option X) → is_some o ≡ false → o ≡ None
not-some None e = refl
not-some (Some x) e = absurd cc

never : (b : Bool) → (b && false) ≡ false
never true = refl
never false = refl

zero-test : (h : ℕ) → h ≢ 0 → (h == 0) ≡ false
zero-test h ne = grind (arith, nat_tests, ne)

same-uid : (uid : ℕ) → uid ≡ group_uid → (uid == group_uid) ≡ true
same-uid uid is = grind (arith, nat_tests, is)

other-uid : (uid : ℕ) → uid ≢ group_uid → (uid == group_uid) ≡ false
other-uid uid ne = grind (arith, nat_tests, ne)

-- a call on a listed block, which tests these refusals after the test that the block is listed
abbrev on_listed : (Choice → Memory → List (Bool × Refusal)) → (Memory → Memory) → ℕ → Call (Unit {0})
on_listed refusals after h choice m = does m (no_listed m h ∷ refusals choice m) (after m)

-- and one that refuses groups
abbrev on_ungrouped : (Choice → Memory → List (Bool × Refusal)) → (Memory → Memory) → ℕ → Call (Unit {0})
on_ungrouped refusals after h choice m = does m (no_listed m h ∷ names_group m h ∷ refusals choice m) (after m)

-- the refusals of a lock after that test
abbrev lock-refusals : ℕ → Choice → Memory → List (Bool × Refusal)
lock-refusals h choice m = locks_full m (vm h) ∷ bringing choice m h

module _ {D : Type 0} (medium : Medium D) (v : VmState D) (s : Store) (tied : IsTied medium v s) where
  -- Blocks that are no groups

  module _ (refusals : Choice → Memory → List (Bool × Refusal)) (after : Memory → Memory) (h : ℕ) where
    -- on what is no group, such a call is the one that takes groups too
    no_group-row : (IsGroup v h → ⊥) → (w : VmState D) (t : Store) (r : Result (Unit {0}) Refusal)
        → DoesRow medium (on_listed refusals after h) r v s w t → DoesRow medium (on_ungrouped refusals after h) r v s w t
    no_group-row none w t r row m is =
        let b = row m is in
        let n = given_memory b.0.given m in
        let test : is_group n h ≡ false = is_group-given b.0.given m h ∙ no_group-told medium v s tied m is h none in
        let tests : first_refusal (no_listed n h ∷ names_group n h ∷ refusals b.0 n) ≡ first_refusal (no_listed n h ∷ refusals b.0 n) =
        rw test refl in
        (b.0, b.1, b.2, b.3, ap (λ o. come_to {A = Unit {0}} o (unchanged n) tt (after n)) tests ∙ b.4)

    -- a group it refuses
    group-row : IsGroup v h → DoesRow medium (on_ungrouped refusals after h) (Err refusal.Reserved) v s v s
    group-row group m is =
        let one = group-told medium v s tied m is h group in
        let listed = group-listed m h one in
        (chosen false false [], record { given = λ good. refl; device = λ good fails. absurd cc }, m, is, rw (one, listed) refl)

  pub lock-row : (h : ℕ) → (IsGroup v h → ⊥) → (w : VmState D) (t : Store) (r : Result (Unit {0}) Refusal)
      → DoesRow medium (lock_listed h) r v s w t → DoesRow medium (vlock h) r v s w t
  lock-row h = no_group-row (lock-refusals h) (λ m. with_locks m (vm h) (locks_of m (vm h) + 1)) h

  pub lock-group-row : (h : ℕ) → IsGroup v h → DoesRow medium (vlock h) (Err refusal.Reserved) v s v s
  lock-group-row h = group-row (lock-refusals h) (λ m. with_locks m (vm h) (locks_of m (vm h) + 1)) h

  pub free-row : (h : ℕ) → (IsGroup v h → ⊥) → (w : VmState D) (t : Store) (r : Result (Unit {0}) Refusal)
      → DoesRow medium (free_listed h) r v s w t → DoesRow medium (vfree h) r v s w t
  free-row h = no_group-row (λ choice m. is_in_use m (vm h) ∷ []) (λ m. without_listed m h) h

  pub free-group-row : (h : ℕ) → IsGroup v h → DoesRow medium (vfree h) (Err refusal.Reserved) v s v s
  free-group-row h = group-row (λ choice m. is_in_use m (vm h) ∷ []) (λ m. without_listed m h) h

  -- New blocks, and the user ID of groups

  pub vnew-row : (uid : ℕ) → uid ≢ group_uid → (w : VmState D) (t : Store) (r : Result ℕ Refusal)
      → DoesRow medium (make_listed uid 1) r v s w t → DoesRow medium (vnew uid) r v s w t
  vnew-row uid ne w t r row m is =
      let b = row m is in
      let n = given_memory b.0.given m in
      let test = other-uid uid ne in
      let h = unwrap_or (lowest_handle n Vm) 0 in
      let own = (is_none (lowest_handle n Vm), refusal.NoHandle) ∷ (cannot_make b.0 n (vm h), refusal.NoRoom) ∷ [] in
      let tests : first_refusal (is_reserved uid ∷ own) ≡ first_refusal own = rw test refl in
      (b.0, b.1, b.2, b.3, ap (λ o. come_to o (unchanged n) h (with_listed n h (Some (new_listed uid 1)))) tests ∙ b.4)

  pub vnew-reserved-row : (uid : ℕ) → uid ≡ group_uid → DoesRow medium (vnew uid) (Err refusal.Reserved) v s v s
  vnew-reserved-row uid same m is =
      let test = same-uid uid same in
      (chosen false false [], record { given = λ good. refl; device = λ good fails. absurd cc }, m, is, rw test refl)

  pub vfind-reserved-row : (start uid : ℕ) → uid ≡ group_uid → DoesRow medium (vfind start uid) (Err refusal.Reserved) v s v s
  vfind-reserved-row start uid same m is =
      let test = same-uid uid same in
      (chosen false false [], record { given = λ good. refl; device = λ good fails. absurd cc }, m, is, rw test refl)

  -- The map block

  pub vsetmap-unlisted-row : (h : ℕ) → h ≢ 0 → held_at v h ≡ None → DoesRow medium (vsetmap h) (Err refusal.BadHandle) v s v s
  vsetmap-unlisted-row h some none m is =
      let test = zero-test h some in
      let absent = no-uid (held_at v h) (listed_at m h) none (uid-told medium v s tied m is h) in
      (chosen false false [], record { given = λ good. refl; device = λ good fails. absurd cc }, m, is, rw (test, absent) refl)

  pub vsetmap-group-row : (h : ℕ) → IsGroup v h → DoesRow medium (vsetmap h) (Err refusal.Reserved) v s v s
  vsetmap-group-row h group m is =
      let one = group-told medium v s tied m is h group in
      let first : (not (h == 0) && is_none (listed_at m h)) ≡ false = ap (λ b. not (h == 0) && b) (group-listed m h one) ∙ never (not (h == 0)) in
      (chosen false false [], record { given = λ good. refl; device = λ good fails. absurd cc }, m, is, rw (first, one) refl)
