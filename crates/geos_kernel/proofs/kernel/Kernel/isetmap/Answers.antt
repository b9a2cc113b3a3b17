use Rattle.std.proofs.Common.{refl, subst}
use Rattle.geos_calls.specs.ItemCalls.{isetmap}
use Rattle.geos_kernel.proofs.ItemCalls.{mapped-file}
use Rattle.geos_kernel.proofs.Listed.{same-spares}
use Rattle.geos_kernel.proofs.Seen.{calls-seen}
use Rattle.geos_kernel.proofs.VmCalls.{quiet-calls, spared-kernel}
use Rattle.geos_kernel.specs.Kernel.{Remain}
use Rattle.geos_kernel.proofs.Remaining.{same-remain}
use Rattle.geos_kernel.proofs.kernel.Kernel.isetmap.Goals as goal

pub invariant_of-self : goal.invariant_of-self
invariant_of-self g c =
    let d = g.D.Device in
    let v = c.self.inside.vm in
    let s = c.self.inside.blocks in
    let e = c.set_map_item.ensures in
    spared-kernel d.medium v c.set_map_item.new.vm s s c.self.invariant (same-spares s s refl).beside
    (isetmap c.args.group c.args.item) c.set_map_item.result (e.tied s c.self.invariant.tied) (e.row s c.self.invariant.tied)

pub returns-clause-calls : goal.returns-clause-calls
returns-clause-calls g c =
    let d = g.D.Device in
    let v = c.self.inside.vm in
    let s = c.self.inside.blocks in
    let w = c.set_map_item.new.vm in
    let r = c.set_map_item.result in
    let call = isetmap c.args.group c.args.item in
    let e = c.set_map_item.ensures in
    let file = mapped-file v w (c.args.group, c.args.item) r e.ok e.err in
    calls-seen d.medium v s c.args.self.now c.self.view_is (quiet-calls d.medium v w s s file (e.row s c.self.invariant.tied) (same-spares s s refl))

pub returns-clause-remain : goal.returns-clause-remain
returns-clause-remain g c = subst (λ k. Remain k.core.blocks c.self.inside.blocks 0) c.self.view_is
    (same-remain c.self.inside.blocks c.self.inside.blocks 0 refl)
