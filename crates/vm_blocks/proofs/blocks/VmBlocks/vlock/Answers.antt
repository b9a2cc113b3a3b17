use Rattle.std.proofs.Common.{◌≡◌, ◌≢◌, ℕ, refl, ap, subst, sym, ◌∙◌, ◌+◌}
use Rattle.std.specs.Prelude.{Err, Result}
use Rattle.geos_terms.specs.Names.{vm}
use Rattle.geos_terms.specs.declared.name.Name.{Name}
use Rattle.block_handles.specs.declared.error.HandleError.{HandleError}
use Rattle.block_handles.specs.declared.error.HandleError.TheVariants.{BadHandle}
use Rattle.block_handles.specs.Change.{with_locks}
use Rattle.block_handles.specs.Names.{slot_of}
use Rattle.block_handles.specs.Store.{Store, IsThere, locks_of}
use Rattle.vm_blocks.specs.Tied.{IsTied}
use Rattle.vm_blocks.specs.View.{vm_slot}
use Rattle.vm_blocks.proofs.Bringing.{Locks, full-locks, there-locks}
use Rattle.vm_blocks.proofs.blocks.VmBlocks.vlock.Goals as goal

pub returns-in-Ok : goal.returns-in-Ok
returns-in-Ok g c =
    let d = g.D.Device in
    let v = c.args.self.now in
    let s = c.args.blocks.now in
    let h = c.args.handle in
    let e = c.in-Ok.ensures in
    let slot : slot_of c.vm.result ≡ vm_slot h = ap slot_of c.vm.ensures in
    let few : locks_of s (vm_slot h) ≢ 65535 = λ full. (let full_was = e.locked.1 (ap (locks_of s) slot ∙ full) in absurd cc) in
    let more = e.ok ∙ ap (λ j. with_locks s j (locks_of s j + 1)) slot in
    let locks = there-locks d.medium v s c.lock.new.self h c.requires (subst (IsThere s) slot e.there) few more in
    record { brings = locks.brings; bad_handle = locks.bad_handle; locked = locks.locked; there = λ was. more; ok = locks.ok; row = locks.row }

pub returns-in-Err-Locked : goal.returns-in-Err-Locked
returns-in-Err-Locked g c =
    let d = g.D.Device in
    let v = c.args.self.now in
    let s = c.args.blocks.now in
    let h = c.args.handle in
    let e = c.in-Err-Locked in
    let full : locks_of s (vm_slot h) ≡ 65535 = ap (locks_of s) (sym (ap slot_of c.vm.ensures))
    ∙ c.lock.ensures.locked.0 (e.is ∙ ap Err e.field-0-is) in
    let locks = full-locks d.medium v s c.lock.new.self h c.requires full e.ensures.err in
    record {
      brings = locks.brings;
      bad_handle = locks.bad_handle;
      locked = locks.locked;
      there = λ was. (refl, e.ensures.err);
      ok =
          locks.ok;
      row = locks.row;
    }

-- where a name is locked of no block, the handle has none
not-there : (s : Store) (h : ℕ) (name : Name) (r : Result (Unit {0}) HandleError) → name ≡ vm h → r ≡ Err BadHandle
    → (r ≡ Err BadHandle → IsThere s (slot_of name) → ⊥) → IsThere s (vm_slot h) → ⊥
not-there s h name r is bad none there = none bad (subst (λ (n : Name). IsThere s (slot_of n)) (sym is) there)

pub lock_absent-requires : goal.lock_absent-requires
lock_absent-requires g c =
    let d = g.D.Device in
    let v = c.args.self.now in
    let s = c.args.blocks.now in
    let h = c.args.handle in
    let e = c.in-Err-BadHandle in
    let absent = not-there s h c.vm.result c.lock.result c.vm.ensures (e.is ∙ ap Err e.field-0-is) c.lock.ensures.bad_handle.0 in
    record {
      tied = subst (IsTied d.medium v) (sym e.ensures.err) c.requires;
      absent = subst (λ t. IsThere t (vm_slot h) → ⊥)
          (sym e.ensures.err) absent;
    }

pub returns-in-Err-BadHandle : goal.returns-in-Err-BadHandle
returns-in-Err-BadHandle g c =
    let d = g.D.Device in
    let v = c.args.self.now in
    let s = c.args.blocks.now in
    let h = c.args.handle in
    let e = c.in-Err-BadHandle in
    let w = c.lock_absent.new.self in
    let t = c.lock_absent.new.blocks in
    let result = c.lock_absent.result in
    let done = c.lock_absent.ensures in
    let absent = not-there s h c.vm.result c.lock.result c.vm.ensures (e.is ∙ ap Err e.field-0-is) c.lock.ensures.bad_handle.0 in
    let locks = subst (λ u. Locks d.medium h result v w u t) e.ensures.err
    (record { brings = done.brings; bad_handle = done.bad_handle; locked = done.locked; ok = done.ok; row = done.row }) in
    record {
      brings = locks.brings;
      bad_handle = locks.bad_handle;
      locked = locks.locked;
      there = λ was. absurd (absent was);
      ok =
          locks.ok;
      row = locks.row;
    }
