use Rattle.std.proofs.Common.{subst, sym, ◌∙◌}
use Rattle.vm_blocks.specs.declared.error.NewError.TheVariants as error
use Rattle.vm_blocks.specs.ListedCalls.{make_listed}
use Rattle.vm_blocks.specs.Refused.{of_new}
use Rattle.geos_kernel.specs.Kernel.{NewListedHasNoRoom}
use Rattle.geos_kernel.specs.View.{core_of}
use Rattle.geos_kernel.proofs.Lacking.{new-lacks, room-below}
use Rattle.geos_kernel.proofs.ListedRows.{vnew-reserved-row, vnew-row}
use Rattle.geos_kernel.proofs.Seen.{calls-seen}
use Rattle.geos_kernel.proofs.There.{asks-nothing}
use Rattle.geos_kernel.proofs.VmCalls.{made-below, made-file, made-ready, made-spares, quiet-calls, spared-kernel, told-calls}
use Rattle.geos_kernel.proofs.kernel.Kernel.vnew.Goals as goal

pub returns-then-uid-eq-GROUP_UID-clause-calls : goal.returns-then-uid-eq-GROUP_UID-clause-calls
returns-then-uid-eq-GROUP_UID-clause-calls g c =
    let d = g.D.Device in
    let v = c.self.inside.vm in
    let s = c.self.inside.blocks in
    told-calls d.medium v s c.args.self.now c.self.view_is
    (vnew-reserved-row d.medium v s c.self.invariant.tied c.args.uid c.if-uid-eq-GROUP_UID.true)

pub invariant_of-self : goal.invariant_of-self
invariant_of-self g c =
    let d = g.D.Device in
    let v = c.self.inside.vm in
    let s = c.self.inside.blocks in
    let w = c.vnew-made.new.self in
    let t = c.vnew-made.new.blocks in
    let uid = c.args.uid in
    let r = c.vnew-made.result in
    let e = c.vnew-made.ensures in
    let made = made-below d.medium v w s t uid 1 c.self.invariant r e.ok e.no_room e.stays e.err in
    spared-kernel d.medium v w s t c.self.invariant (made-spares d.medium v w s t uid 1 c.self.invariant made).beside
    (make_listed uid 1) (of_new r) e.tied e.row

pub returns-clause-calls : goal.returns-clause-calls
returns-clause-calls g c =
    let d = g.D.Device in
    let v = c.self.inside.vm in
    let s = c.self.inside.blocks in
    let w = c.vnew-made.new.self in
    let t = c.vnew-made.new.blocks in
    let uid = c.args.uid in
    let r = c.vnew-made.result in
    let e = c.vnew-made.ensures in
    let made = made-below d.medium v w s t uid 1 c.self.invariant r e.ok e.no_room e.stays e.err in
    let row = vnew-row d.medium v s c.self.invariant.tied uid c.if-uid-eq-GROUP_UID.false w t (of_new r) e.row in
    let file = made-file d.medium v w s t uid 1 c.self.invariant made in
    rw c.of_new.ensures (calls-seen d.medium v s c.args.self.now c.self.view_is
    (quiet-calls d.medium v w s t file row (made-spares d.medium v w s t uid 1 c.self.invariant made)))

pub returns-clause-no_room : goal.returns-clause-no_room
returns-clause-no_room g c = λ is.
    let d = g.D.Device in
    let v = c.self.inside.vm in
    let s = c.self.inside.blocks in
    let w = c.vnew-made.new.self in
    let t = c.vnew-made.new.blocks in
    let e = c.vnew-made.ensures in
    let below = room-below c.vnew-made.result (sym c.of_new.ensures ∙ is) in
    subst (λ k. NewListedHasNoRoom k.core (core_of d.medium w t)) c.self.view_is
    (new-lacks d.medium v w s t c.vnew-made.result error.NoRoom below e.err (e.no_room below))

pub returns-clause-ready : goal.returns-clause-ready
returns-clause-ready g c =
    let d = g.D.Device in
    let v = c.self.inside.vm in
    let s = c.self.inside.blocks in
    let w = c.vnew-made.new.self in
    let t = c.vnew-made.new.blocks in
    rw c.of_new.ensures (made-ready d.medium v w s t c.args.uid 1 c.self.invariant c.vnew-made.result c.vnew-made.ensures.ok)

pub returns-clause-device : goal.returns-clause-device
returns-clause-device g c =
    let d = g.D.Device in
    let v = c.self.inside.vm in
    let s = c.self.inside.blocks in
    let w = c.vnew-made.new.self in
    let t = c.vnew-made.new.blocks in
    let uid = c.args.uid in
    let e = c.vnew-made.ensures in
    let made = made-below d.medium v w s t uid 1 c.self.invariant c.vnew-made.result e.ok e.no_room e.stays e.err in
    asks-nothing d.medium v w s t c.args.self.now c.self.view_is (made-file d.medium v w s t uid 1 c.self.invariant made)
