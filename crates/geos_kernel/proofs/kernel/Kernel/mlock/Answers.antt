use Rattle.std.proofs.Common.{subst}
use Rattle.block_handles.specs.Names.{slot_of}
use Rattle.geos_kernel.proofs.Locks.{lock-done, LocksSlot}
use Rattle.geos_kernel.proofs.Seen.{blocks-alone, calls-seen}
use Rattle.geos_kernel.specs.Kernel.{Remain}
use Rattle.geos_kernel.proofs.Remaining.{lock-remain}
use Rattle.geos_kernel.proofs.kernel.Kernel.mlock.Goals as goal

pub invariant_of-self : goal.invariant_of-self
invariant_of-self g c =
    let d = g.D.Device in
    let old = c.self.inside.blocks in
    let new = c.lock-locked.new.self in
    let r = c.lock-locked.result in
    let e = c.lock-locked.ensures in
    let facts = subst (λ name. LocksSlot old new (slot_of name) r) c.mem.ensures (e.there, e.ok, e.bad_handle, e.locked, e.err) in
    (lock-done d.medium c.self.inside.vm old c.args.handle c.self.invariant new r facts).0

pub returns-clause-calls : goal.returns-clause-calls
returns-clause-calls g c =
    let d = g.D.Device in
    let v = c.self.inside.vm in
    let old = c.self.inside.blocks in
    let new = c.lock-locked.new.self in
    let r = c.lock-locked.result in
    let e = c.lock-locked.ensures in
    let facts = subst (λ name. LocksSlot old new (slot_of name) r) c.mem.ensures (e.there, e.ok, e.bad_handle, e.locked, e.err) in
    rw c.of_handle.ensures (calls-seen d.medium v old c.args.self.now c.self.view_is
    (lock-done d.medium v old c.args.handle c.self.invariant new r facts).1)

pub returns-clause-vm : goal.returns-clause-vm
returns-clause-vm g c = blocks-alone g.D.Device.medium c.self.inside.vm c.self.inside.blocks c.lock-locked.new.self c.args.self.now c.self.view_is

pub returns-clause-remain : goal.returns-clause-remain
returns-clause-remain g c = subst (λ k. Remain k.core.blocks c.lock-locked.new.self 0) c.self.view_is
    (lock-remain c.self.inside.blocks c.lock-locked.new.self (slot_of c.mem.result) c.lock-locked.result
    c.self.invariant.laid c.lock-locked.ensures.there c.lock-locked.ensures.ok c.lock-locked.ensures.err)
