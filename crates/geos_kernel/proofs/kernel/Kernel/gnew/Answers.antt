use Rattle.std.proofs.Common.{subst}
use Rattle.geos_terms.specs.declared.refusal.Refusal.TheVariants as refusal
use Rattle.geos_calls.specs.ItemCalls.{gnew}
use Rattle.geos_terms.specs.Names.{group_uid}
use Rattle.geos_kernel.specs.Kernel.{NewListedHasNoRoom}
use Rattle.geos_kernel.specs.View.{core_of}
use Rattle.geos_kernel.proofs.Lacking.{new-lacks}
use Rattle.geos_kernel.proofs.Seen.{calls-seen}
use Rattle.geos_kernel.proofs.VmCalls.{made-file, made-group, made-spares, quiet-calls, spared-kernel}
use Rattle.geos_kernel.proofs.kernel.Kernel.gnew.Goals as goal

pub invariant_of-self : goal.invariant_of-self
invariant_of-self g c =
    let d = g.D.Device in
    let v = c.self.inside.vm in
    let s = c.self.inside.blocks in
    let w = c.group_new.new.vm in
    let t = c.group_new.new.blocks in
    let r = c.group_new.result in
    let e = c.group_new.ensures in
    let made = made-group d.medium v w s t group_uid 0 c.self.invariant r e.ok e.why e.no_room e.stays e.err in
    spared-kernel d.medium v w s t c.self.invariant (made-spares d.medium v w s t group_uid 0 c.self.invariant made).beside gnew r e.tied e.row

pub returns-clause-calls : goal.returns-clause-calls
returns-clause-calls g c =
    let d = g.D.Device in
    let v = c.self.inside.vm in
    let s = c.self.inside.blocks in
    let w = c.group_new.new.vm in
    let t = c.group_new.new.blocks in
    let r = c.group_new.result in
    let e = c.group_new.ensures in
    let made = made-group d.medium v w s t group_uid 0 c.self.invariant r e.ok e.why e.no_room e.stays e.err in
    let file = made-file d.medium v w s t group_uid 0 c.self.invariant made in
    calls-seen d.medium v s c.args.self.now c.self.view_is
    (quiet-calls d.medium v w s t file e.row (made-spares d.medium v w s t group_uid 0 c.self.invariant made))

pub returns-clause-no_room : goal.returns-clause-no_room
returns-clause-no_room g c = λ is.
    let d = g.D.Device in
    let v = c.self.inside.vm in
    let s = c.self.inside.blocks in
    let w = c.group_new.new.vm in
    let t = c.group_new.new.blocks in
    let e = c.group_new.ensures in
    subst (λ k. NewListedHasNoRoom k.core (core_of d.medium w t)) c.self.view_is
    (new-lacks d.medium v w s t c.group_new.result refusal.NoRoom is e.err (e.no_room is))
