use Rattle.std.specs.Prelude.{◌↔◌, Err, OnOk, Option, None, Some, Result}
use Rattle.std.proofs.Common.{◌≡◌, ◌≢◌, ℕ, ◌+◌, ap, refl, sym, subst, ◌∙◌, arith}
use Rattle.std.proofs.lemmas.Result.{err_from_is_err_and}
use Rattle.block_handles.specs.Change.{with_lock_more, with_locks}
use Rattle.block_handles.specs.Names.{slot_of}
use Rattle.block_handles.specs.Store.{Block, IsBlock, IsThere, Store, locks_in, locks_of}
use Rattle.block_handles.specs.declared.error.HandleError.{HandleError}
use Rattle.block_handles.specs.declared.error.HandleError.TheVariants.{BadHandle, Locked}
use Rattle.geos_terms.specs.Names.{vm}
use Rattle.geos_terms.specs.declared.name.Name.{Name}
use Rattle.vm_blocks.specs.Bring.{Brought}
use Rattle.vm_blocks.specs.View.{held_at, vm_slot}
use Rattle.vm_blocks.proofs.Bringing.{Locks, brought-locks, not-brought-locks}
use Rattle.vm_blocks.proofs.Counts.{locked-more}
use Rattle.vm_blocks.proofs.blocks.VmBlocks.lock_absent.Goals as goal

-- What is not there is not locked

free-in : (o : Option Block) → (IsBlock o → ⊥) → locks_in o ≡ 0
free-in None absent = refl
free-in (Some b) absent = absurd (absent tt)

few : (s : Store) (slot : ℕ) → (IsThere s slot → ⊥) → locks_of s slot ≢ 65535
few s slot absent full = omega (arith, full, free-in _ absent)

-- nor is it when it was brought
brought-few : (s t : Store) (h : ℕ) → (IsThere s (vm_slot h) → ⊥) → Brought s t h → locks_of t (vm_slot h) ≢ 65535
brought-few s t h absent brought full = few s (vm_slot h) absent (sym brought.locks ∙ full)

-- so the lock is taken
lock-taken : (s t u : Store) (h : ℕ) (name : Name) (r : Result (Unit {0}) HandleError) → name ≡ vm h
    → (IsThere s (vm_slot h) → ⊥) → Brought s t h → OnOk r (u ≡ with_lock_more t (slot_of name))
    → ((r ≡ Err BadHandle) ↔ (IsThere t (slot_of name) → ⊥)) → ((r ≡ Err Locked) ↔ (locks_of t (slot_of name) ≡ 65535))
    → u ≡ with_locks t (vm_slot h) (locks_of t (vm_slot h) + 1)
lock-taken s t u h name r is absent brought ok bad_handle locked =
    let slot : slot_of name ≡ vm_slot h = ap slot_of is in
    locked-more t u (slot_of name) r ok bad_handle locked (subst (IsThere t) (sym slot) brought.there)
    (λ full. brought-few s t h absent brought (ap (locks_of t) (sym slot) ∙ full))
    ∙ ap (λ j. with_locks t j (locks_of t j + 1)) slot

pub returns-in_err-bring : goal.returns-in_err-bring
returns-in_err-bring g c =
    let d = g.D.Device in
    let now = c.args.self.now in
    let w = c.bring.new.self in
    let s = c.args.blocks.now in
    let t = c.bring.new.blocks in
    let h = c.args.h in
    let p = err_from_is_err_and c.from_residual.result c.from_residual.ensures.1 in
    let b = c.in_err-bring.ensures in
    let locks : Locks d.medium h c.from_residual.result now w s t =
    rw (p.1, p.2) (not-brought-locks d.medium now w s t h c.in_err-bring.field-0.0 b.brings b.bad_handle b.row
    (few s (vm_slot h) c.requires.absent)) in
    record { brings = locks.brings; bad_handle = locks.bad_handle; locked = locks.locked; ok = locks.ok; row = locks.row }

pub returns : goal.returns
returns g c =
    let d = g.D.Device in
    let now = c.args.self.now in
    let w = c.bring.new.self in
    let s = c.args.blocks.now in
    let t = c.bring.new.blocks in
    let u = c.lock.new.self in
    let h = c.args.h in
    let b = c.in_ok-bring.ensures in
    let e = c.lock.ensures in
    let taken = lock-taken s t u h c.vm.result c.lock.result c.vm.ensures c.requires.absent b.ok e.ok e.bad_handle e.locked in
    let listed : held_at now h ≡ None → ⊥ = λ none. (let bad = b.bad_handle.1 none in absurd cc) in
    let locks = brought-locks d.medium now w s t h u b.brings listed b.ok b.row (brought-few s t h c.requires.absent b.ok) taken in
    record { brings = locks.brings; bad_handle = locks.bad_handle; locked = locks.locked; ok = locks.ok; row = locks.row }
