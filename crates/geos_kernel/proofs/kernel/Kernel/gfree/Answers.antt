use Rattle.geos_calls.specs.ItemCalls.{gfree}
use Rattle.geos_kernel.proofs.Seen.{calls-seen}
use Rattle.geos_kernel.proofs.VmCalls.{freed-file, freed-spares, group-free, quiet-calls, spared-kernel}
use Rattle.geos_kernel.specs.Kernel.{Remain}
use Rattle.std.proofs.Common.{subst}
use Rattle.geos_kernel.proofs.Remaining.{dropped-remain}
use Rattle.geos_kernel.proofs.kernel.Kernel.gfree.Goals as goal

pub invariant_of-self : goal.invariant_of-self
invariant_of-self g c =
    let d = g.D.Device in
    let v = c.self.inside.vm in
    let s = c.self.inside.blocks in
    let w = c.group_free.new.vm in
    let t = c.group_free.new.blocks in
    let r = c.group_free.result in
    let h = c.args.group in
    let e = c.group_free.ensures in
    let spares = freed-spares v w s t h r c.self.invariant.laid e.drops e.err (group-free r v w s t h e.no_group e.locked) in
    spared-kernel d.medium v w s t c.self.invariant spares.beside (gfree h) r e.tied e.row

pub returns-clause-calls : goal.returns-clause-calls
returns-clause-calls g c =
    let d = g.D.Device in
    let v = c.self.inside.vm in
    let s = c.self.inside.blocks in
    let w = c.group_free.new.vm in
    let t = c.group_free.new.blocks in
    let r = c.group_free.result in
    let h = c.args.group in
    let e = c.group_free.ensures in
    let spares = freed-spares v w s t h r c.self.invariant.laid e.drops e.err (group-free r v w s t h e.no_group e.locked) in
    calls-seen d.medium v s c.args.self.now c.self.view_is (quiet-calls d.medium v w s t (freed-file v w s t h r e.state e.err) e.row spares)

pub returns-clause-remain : goal.returns-clause-remain
returns-clause-remain g c = subst (λ k. Remain k.core.blocks c.group_free.new.blocks c.args.group) c.self.view_is
    (dropped-remain c.self.inside.blocks c.group_free.new.blocks _ c.args.group c.group_free.result c.group_free.ensures.drops
    c.group_free.ensures.err)
