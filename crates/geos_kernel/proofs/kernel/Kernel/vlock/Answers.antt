use Rattle.std.proofs.Common.{◌≡◌, false, true, refl, subst}
use Rattle.std.specs.Prelude.{OnOk}
use Rattle.geos_calls.specs.VmCalls.{lock_listed}
use Rattle.block_handles.specs.Change.{with_lock_more}
use Rattle.block_handles.specs.Store.{IsThere}
use Rattle.vm_blocks.specs.View.{vm_slot}
use Rattle.vm_blocks.specs.Refused.{of_lock}
use Rattle.db_items.specs.Groups.{IsGroup}
use Rattle.geos_kernel.proofs.Listed.{calls-beside}
use Rattle.geos_kernel.proofs.ListedRows.{lock-group-row, lock-row}
use Rattle.geos_kernel.proofs.Seen.{calls-seen}
use Rattle.geos_kernel.proofs.Stops.{leaves-kept, reads-nothing}
use Rattle.geos_kernel.proofs.There.{lock-device, lock-in_memory, lock-more, lock-no_room, lock-refused}
use Rattle.geos_kernel.proofs.VmCalls.{lock-lasts, lock-spares, spared-kernel, told-calls}
use Rattle.geos_kernel.proofs.kernel.Kernel.vlock.Goals as goal

pub returns-then-is_group-clause-calls : goal.returns-then-is_group-clause-calls
returns-then-is_group-clause-calls g c =
    let d = g.D.Device in
    let v = c.self.inside.vm in
    let s = c.self.inside.blocks in
    told-calls d.medium v s c.args.self.now c.self.view_is
    (lock-group-row d.medium v s c.self.invariant.tied c.args.handle (c.if-is_group.ensures.0 refl))

pub returns-then-is_group-clause-device : goal.returns-then-is_group-clause-device
returns-then-is_group-clause-device g c = reads-nothing g.D.Device.medium _ _ (λ e. absurd cc)

pub invariant_of-self : goal.invariant_of-self
invariant_of-self g c =
    let d = g.D.Device in
    let v = c.self.inside.vm in
    let s = c.self.inside.blocks in
    let done = c.vlock-locked in
    let w = done.new.self in
    let t = done.new.blocks in
    let r = done.result in
    let e = done.ensures in
    let h = c.args.handle in
    spared-kernel d.medium v w s t c.self.invariant (lock-spares v s t h r e.brings.keeps e.ok e.brings.err).beside
    (lock_listed h) (of_lock r) e.brings.tied e.row

pub returns-clause-calls : goal.returns-clause-calls
returns-clause-calls g c =
    let d = g.D.Device in
    let v = c.self.inside.vm in
    let s = c.self.inside.blocks in
    let done = c.vlock-locked in
    let w = done.new.self in
    let t = done.new.blocks in
    let r = done.result in
    let e = done.ensures in
    let h = c.args.handle in
    let none : IsGroup v h → ⊥ = λ group. (let is : false ≡ true = c.if-is_group.ensures.1 group in absurd cc) in
    let row = lock-row d.medium v s c.self.invariant.tied h none w t (of_lock r) e.row in
    let lasts = lock-lasts (d.medium.honest v.file.device) (d.medium.failed v.file.device) (d.medium.failed w.file.device)
    r e.brings.device.cause e.brings.device.counted in
    rw c.of_lock.ensures (calls-seen d.medium v s c.args.self.now c.self.view_is
    (calls-beside d.medium v w s t row e.brings.device.reads.stays lasts (lock-spares v s t h r e.brings.keeps e.ok e.brings.err)))

pub returns-clause-in_memory : goal.returns-clause-in_memory
returns-clause-in_memory g c =
    let d = g.D.Device in
    let v = c.self.inside.vm in
    let s = c.self.inside.blocks in
    let done = c.vlock-locked in
    let w = done.new.self in
    let t = done.new.blocks in
    let h = c.args.handle in
    let e = done.ensures in
    rw c.of_lock.ensures (lock-in_memory d.medium v w s t c.args.self.now c.self.view_is h (t ≡ with_lock_more s (vm_slot h))
    done.result (λ was. (e.brings.there was, e.there was)) e.brings.absent)

pub returns-clause-locks : goal.returns-clause-locks
returns-clause-locks g c =
    let d = g.D.Device in
    let v = c.self.inside.vm in
    let s = c.self.inside.blocks in
    let done = c.vlock-locked in
    let w = done.new.self in
    let t = done.new.blocks in
    let r = done.result in
    let h = c.args.handle in
    let e = done.ensures in
    let more = lock-more d.medium v w s t c.args.self.now c.self.view_is h (t ≡ with_lock_more s (vm_slot h)) r
    (λ was. (e.brings.there was, e.there was)) in
    rw c.of_lock.ensures (subst (λ k. IsThere k.core.blocks (vm_slot h) → OnOk (of_lock r) (t ≡ with_lock_more k.core.blocks (vm_slot h)))
    c.self.view_is more)

pub returns-clause-refused : goal.returns-clause-refused
returns-clause-refused g c =
    let d = g.D.Device in
    let v = c.self.inside.vm in
    let s = c.self.inside.blocks in
    let done = c.vlock-locked in
    let w = done.new.self in
    let t = done.new.blocks in
    let h = c.args.handle in
    let e = done.ensures in
    rw c.of_lock.ensures (lock-refused d.medium v w s t c.args.self.now c.self.view_is h (t ≡ with_lock_more s (vm_slot h))
    done.result (λ was. (e.brings.there was, e.there was)) (λ bad. e.brings.unlisted (e.bad_handle.0 bad)) e.locked.0)

pub returns-clause-no_room : goal.returns-clause-no_room
returns-clause-no_room g c =
    let d = g.D.Device in
    let v = c.self.inside.vm in
    let s = c.self.inside.blocks in
    let done = c.vlock-locked in
    let w = done.new.self in
    let t = done.new.blocks in
    let h = c.args.handle in
    let e = done.ensures in
    rw c.of_lock.ensures (lock-no_room d.medium v w s t c.args.self.now c.self.view_is h (t ≡ with_lock_more s (vm_slot h))
    done.result e.brings.same e.bad_handle e.brings.no_room)

pub returns-clause-device : goal.returns-clause-device
returns-clause-device g c =
    let d = g.D.Device in
    let v = c.self.inside.vm in
    let s = c.self.inside.blocks in
    let done = c.vlock-locked in
    let w = done.new.self in
    let t = done.new.blocks in
    let h = c.args.handle in
    let b = done.ensures.brings in
    rw c.of_lock.ensures (lock-device d.medium v w s t c.args.self.now c.self.view_is h (t ≡ with_lock_more s (vm_slot h))
    done.result (leaves-kept d.medium v s c.is_sure.ensures.kept) b.same b.device)
