use Rattle.std.proofs.Common.{Ok, ap, refl, sym, subst}
use Rattle.geos_calls.specs.VmCalls.{vsetmap}
use Rattle.vm_blocks.specs.View.{VmState, held_at}
use Rattle.geos_kernel.proofs.Listed.{same-spares}
use Rattle.geos_kernel.proofs.ListedRows.{not-some, vsetmap-group-row, vsetmap-unlisted-row}
use Rattle.geos_kernel.proofs.Seen.{calls-seen}
use Rattle.geos_kernel.proofs.There.{asks-nothing}
use Rattle.geos_kernel.proofs.VmCalls.{quiet-calls, spared-kernel, told-calls}
use Rattle.geos_kernel.specs.Kernel.{Remain}
use Rattle.geos_kernel.proofs.Remaining.{same-remain}
use Rattle.geos_kernel.proofs.kernel.Kernel.vsetmap.Goals as goal

pub returns-then-not-has-clause-calls : goal.returns-then-not-has-clause-calls
returns-then-not-has-clause-calls g c =
    let d = g.D.Device in
    let v = c.self.inside.vm in
    let s = c.self.inside.blocks in
    let h = c.args.handle in
    let row = vsetmap-unlisted-row d.medium v s c.self.invariant.tied h c.if-handle-ne0.true (not-some (held_at v h) (sym c.if-not-has.ensures)) in
    told-calls d.medium v s c.args.self.now c.self.view_is row

pub returns-then-is_group-clause-calls : goal.returns-then-is_group-clause-calls
returns-then-is_group-clause-calls g c =
    let d = g.D.Device in
    let v = c.self.inside.vm in
    let s = c.self.inside.blocks in
    let h = c.args.handle in
    let row = vsetmap-group-row d.medium v s c.self.invariant.tied h (c.if-is_group.ensures.0 refl) in
    told-calls d.medium v s c.args.self.now c.self.view_is row

pub invariant_of-self : goal.invariant_of-self
invariant_of-self g c =
    let d = g.D.Device in
    let v = c.self.inside.vm in
    let s = c.self.inside.blocks in
    let e = c.set_map.ensures in
    spared-kernel d.medium v c.set_map.new.self s s c.self.invariant (same-spares s s refl).beside (vsetmap c.args.handle)
    (Ok tt) (e.tied s c.self.invariant.tied) (e.row s c.self.invariant.tied)

pub returns-clause-calls : goal.returns-clause-calls
returns-clause-calls g c =
    let d = g.D.Device in
    let v = c.self.inside.vm in
    let s = c.self.inside.blocks in
    let w = c.set_map.new.self in
    let h = c.args.handle in
    let e = c.set_map.ensures in
    calls-seen d.medium v s c.args.self.now c.self.view_is
    (quiet-calls d.medium v w s s (ap (λ (x : VmState g.row.D.Denot). x.file) e.state) (e.row s c.self.invariant.tied) (same-spares s s refl))

pub returns-clause-remain : goal.returns-clause-remain
returns-clause-remain g c = subst (λ k. Remain k.core.blocks c.self.inside.blocks 0) c.self.view_is
    (same-remain c.self.inside.blocks c.self.inside.blocks 0 refl)

pub returns-clause-device : goal.returns-clause-device
returns-clause-device g c =
    let s = c.self.inside.blocks in
    asks-nothing g.D.Device.medium c.self.inside.vm c.set_map.new.self s s c.args.self.now c.self.view_is
    (ap (λ (x : VmState g.row.D.Denot). x.file) c.set_map.ensures.state)
