-- Calls that lock a group for an item do their row.
use Rattle.std.proofs.Common.{◌≡◌, ◌≢◌, ◌∙◌, ℕ, ◌+◌, ◌≤◌, List, [], ◌∷◌, Some, None, Bool, true, false, ◌++◌, refl, sym, ap, arith, subst}
use Rattle.std.specs.Prelude.{◌==◌, Result, Ok, Err}
use Rattle.std.proofs.lemmas.Bool.Decides.{nat_tests}
use Rattle.geos_terms.specs.Block.{chunks}
use Rattle.geos_terms.specs.Edits.{Edit, Part, refer}
use Rattle.geos_terms.specs.Names.{vm}
use Rattle.geos_terms.specs.Refusals.{first_refusal}
use Rattle.geos_terms.specs.declared.refusal.Refusal.{Refusal}
use Rattle.geos_terms.specs.declared.refusal.Refusal.TheVariants as refusal
use Rattle.geos_calls.specs.Calls.{deref, in_block, locks_full}
use Rattle.geos_calls.specs.Effects.{Choice, Reference, bringing, come_to, outcome, unchanged}
use Rattle.geos_calls.specs.Given.{given_memory}
use Rattle.geos_calls.specs.ItemCalls.{ilock, no_group}
use Rattle.geos_calls.specs.Memory as memory
use Rattle.geos_calls.specs.Memory.{Memory}
use Rattle.geos_calls.specs.VmCalls.{bring, no_listed}
use Rattle.geos_calls.proofs.Laws.{first_refusal-came}
use Rattle.block_handles.specs.Change.{with_locks}
use Rattle.block_handles.specs.Store.{Store, IsThere, bytes_of, locks_of}
use Rattle.vm_file.specs.Device.{Medium}
use Rattle.vm_blocks.specs.DoesRow.{DoesRow}
use Rattle.vm_blocks.specs.FileOf.{IsMemoryOf}
use Rattle.vm_blocks.specs.Tied.{IsTied}
use Rattle.vm_blocks.specs.View.{VmState, vm_slot}
use Rattle.vm_blocks.proofs.BringRows.{chosen}
use Rattle.vm_blocks.proofs.LockRows.{few-locks, locks-told, memory-locked}
use Rattle.chunk_calls.specs.Edits.{Finds}
use Rattle.chunk_calls.proofs.Named.{chunks-known}
use Rattle.db_items.specs.Groups.{IsGroup}
use Rattle.db_items.specs.Items.{refers_to}
use Rattle.db_items.proofs.Fronts.{came-err, fronted-err, fronted-ok}
use Rattle.db_items.proofs.OnGroups.{brings}
use Rattle.db_items.proofs.Told.{group-listed, group-told, no_group-told}

-- a group with one lock more
abbrev pub once_more : ℕ → Memory → Memory
once_more g m = memory.with_locks m (vm g) (memory.locks_of m (vm g) + 1)

-- the tests before those for the item
abbrev pub lock_tests : ℕ → Choice → Memory → List (Bool × Refusal)
lock_tests g choice m = no_group m g ∷ locks_full m (vm g) ∷ bringing choice m g

full : (n : ℕ) → n ≡ 65535 → (n == 65535) ≡ true
full n e = grind (arith, nat_tests, e)

not-full : (n : ℕ) → n ≢ 65535 → (n == 65535) ≡ false
not-full n ne = grind (arith, nat_tests, ne)

module _ {D : Type 0} (medium : Medium D) (v : VmState D) (s : Store) (g i n : ℕ) (tied : IsTied medium v s) where
  -- no group has the handle
  pub lock_no_group-row : (IsGroup v g → ⊥) → DoesRow medium (ilock g i n) (Err refusal.BadHandle) v s v s
  lock_no_group-row none m is =
      let test = no_group-told medium v s tied m is g none in
      (chosen false false [], record { given = λ good. refl; device = λ good fails. absurd cc }, m, is, rw test refl)

  -- its count is full
  pub lock_full-row : IsGroup v g → locks_of s (vm_slot g) ≡ 65535 → DoesRow medium (ilock g i n) (Err refusal.Locked) v s v s
  lock_full-row group many m is =
      let test = group-told medium v s tied m is g group in
      let count : (memory.locks_of m (vm g) == 65535) ≡ true = full (memory.locks_of m (vm g)) (locks-told medium v s g tied m is ∙ many) in
      (chosen false false [], record { given = λ good. refl; device = λ good fails. absurd cc }, m, is, rw (test, count) refl)

module _ {D : Type 0} (medium : Medium D) (v w : VmState D) (s t : Store) (g i n : ℕ) (tied : IsTied medium w t)
    (group : IsGroup w g) (few : locks_of t (vm_slot g) ≢ 65535) where
  -- the count is not full in the model
  not-full-told : (m : Memory) → IsMemoryOf medium w t m → (memory.locks_of m (vm g) == 65535) ≡ false
  not-full-told m is = not-full (memory.locks_of m (vm g)) (λ e. few (sym (locks-told medium w t g tied m is) ∙ e))

  -- then the tests are those of bringing it
  tests-listed : (choice : Choice) (m : Memory) → IsMemoryOf medium w t m
      → first_refusal (lock_tests g choice m) ≡ first_refusal (no_listed m g ∷ bringing choice m g)
  tests-listed choice m is =
      let one = group-told medium w t tied m is g group in
      let listed = group-listed m g one in
      let count = not-full-told m is in
      rw (one, listed, count) refl

  tests-group : (choice : Choice) (m : Memory) → IsMemoryOf medium w t m
      → first_refusal (lock_tests g choice m) ≡ first_refusal (no_group m g ∷ bringing choice m g)
  tests-group choice m is =
      let one = group-told medium w t tied m is g group in
      let count = not-full-told m is in
      rw (one, count) refl

  -- it was not brought
  pub lock_not_brought-row : (why : Refusal) → DoesRow medium (bring g) (Err why) v s w t → DoesRow medium (ilock g i n) (Err why) v s w t
  lock_not_brought-row why row m is =
      let b = row m is in
      let k = given_memory b.0.given m in
      let c = came-err (first_refusal (no_listed k g ∷ bringing b.0 k g)) (unchanged k) tt why k b.2 b.4 in
      let now : IsMemoryOf medium w t k = subst (IsMemoryOf medium w t) (sym c.1) b.3 in
      let own = deref (vm g) i n b.0 k in
      let came : first_refusal (lock_tests g b.0 k ++ own.refusals) ≡ Some why = first_refusal-came (lock_tests g b.0 k)
      own.refusals why (tests-listed b.0 k now ∙ c.0) in
      (b.0, b.1, k, now, ap (λ o. come_to o own.left own.answer (once_more g own.after)) came)

  module _ (brought : DoesRow medium (bring g) (Ok tt) v s w t) (there : IsThere t (vm_slot g)) where
    known : (m : Memory) → IsMemoryOf medium w t m → refer i n (chunks (bytes_of t (vm_slot g))) ≡ refer i n (memory.chunks_at m (vm g))
    known m is = ap (refer i n) (sym (chunks-known medium w t tied m is (vm g) there))

    -- it has no such item
    pub lock_refused-row : (why : Refusal) → Finds (refer i n) (bytes_of t (vm_slot g)) (Err why) → DoesRow medium (ilock g i n) (Err why) v s w t
    lock_refused-row why finds m is =
        let b = brings medium v w s t g tied group brought m is in
        let k = given_memory b.choice.given m in
        let own = deref (vm g) i n b.choice k in
        let passed = tests-group b.choice k b.is ∙ b.passed in
        let first : first_refusal own.refusals ≡ Some why = subst (λ (e : Edit Part). first_refusal e.refusals ≡ Some why) (known k b.is) finds in
        let comes : outcome own ≡ (Err why, k) = ap (λ o. come_to o own.left own.answer own.after) first in
        (b.choice, b.chosen, k, b.is, fronted-err (lock_tests g b.choice k) passed (once_more g) own why k comes)

    -- it is locked
    pub lock_found-row : (u : Store) (place : ℕ × ℕ) → u ≡ with_locks t (vm_slot g) (locks_of t (vm_slot g) + 1)
        → Finds (refer i n) (bytes_of t (vm_slot g)) (Ok place) → DoesRow medium (ilock g i n) (refers_to g i (Ok place)) v s w u
    lock_found-row u place is_u finds m is =
        let b = brings medium v w s t g tied group brought m is in
        let k = given_memory b.choice.given m in
        let own = deref (vm g) i n b.choice k in
        let passed = tests-group b.choice k b.is ∙ b.passed in
        let none : first_refusal own.refusals ≡ None = subst (λ (e : Edit Part). first_refusal e.refusals ≡ None) (known k b.is) finds.0 in
        let comes : outcome own ≡ (Ok own.answer, k) = ap (λ o. come_to o own.left own.answer own.after) none in
        let len : own.answer.len ≡ place.1 = sym (finds.1 ∙ ap (λ (e : Edit Part). e.answer.len) (known k b.is)) in
        let answer : ◌≡◌ {A = Result Reference Refusal} (Ok own.answer) (refers_to g i (Ok place)) =
        ap (λ x. Ok (in_block (vm g) (record { chunk = i; start = 0; len = x }))) len in
        let most = few-locks medium w t g tied k b.is there 0 (omega arith) in
        let more : locks_of t (vm_slot g) + 1 ≤ 65535 = omega (arith, most, few) in
        let after = memory-locked medium w t g tied k b.is there (locks_of t (vm_slot g) + 1) more in
        let count : memory.with_locks k (vm g) (locks_of t (vm_slot g) + 1) ≡ once_more g k =
        ap (λ x. memory.with_locks k (vm g) (x + 1)) (sym (locks-told medium w t g tied k b.is)) in (
          b.choice,
          b.chosen,
          once_more g k,
          subst (λ x. IsMemoryOf medium w x (once_more g k)) (sym is_u)
              (subst (IsMemoryOf medium w (with_locks t (vm_slot g) (locks_of t (vm_slot g) + 1))) count after),
          fronted-ok (lock_tests g b.choice k) passed (once_more g) own own.answer k comes ∙ ap (λ r. (r, once_more g k)) answer,
        )
