use Rattle.std.proofs.Common.{Ok, ap, refl, subst}
use Rattle.geos_calls.specs.VmCalls.{vdirty}
use Rattle.vm_blocks.specs.View.{VmState}
use Rattle.geos_kernel.proofs.Listed.{same-spares}
use Rattle.geos_kernel.proofs.Seen.{calls-seen}
use Rattle.geos_kernel.proofs.There.{asks-nothing}
use Rattle.geos_kernel.proofs.VmCalls.{quiet-calls, spared-kernel}
use Rattle.geos_kernel.specs.Kernel.{Remain}
use Rattle.geos_kernel.proofs.Remaining.{same-remain}
use Rattle.geos_kernel.proofs.kernel.Kernel.vdirty.Goals as goal

pub invariant_of-self : goal.invariant_of-self
invariant_of-self g c =
    let d = g.D.Device in
    let v = c.self.inside.vm in
    let s = c.self.inside.blocks in
    let e = c.vdirty.ensures in
    spared-kernel d.medium v c.vdirty.new.self s s c.self.invariant (same-spares s s refl).beside (vdirty c.args.name.h) (Ok tt) e.tied e.row

pub returns-clause-calls : goal.returns-clause-calls
returns-clause-calls g c =
    let d = g.D.Device in
    let v = c.self.inside.vm in
    let s = c.self.inside.blocks in
    let w = c.vdirty.new.self in
    let e = c.vdirty.ensures in
    calls-seen d.medium v s c.args.self.now c.self.view_is
    (quiet-calls d.medium v w s s (ap (λ (x : VmState g.row.D.Denot). x.file) e.marks) e.row (same-spares s s refl))

pub returns-clause-remain : goal.returns-clause-remain
returns-clause-remain g c = subst (λ k. Remain k.core.blocks c.self.inside.blocks 0) c.self.view_is
    (same-remain c.self.inside.blocks c.self.inside.blocks 0 refl)

pub returns-clause-device : goal.returns-clause-device
returns-clause-device g c =
    let s = c.self.inside.blocks in
    asks-nothing g.D.Device.medium c.self.inside.vm c.vdirty.new.self s s c.args.self.now c.self.view_is
    (ap (λ (x : VmState g.row.D.Denot). x.file) c.vdirty.ensures.marks)
