use Rattle.geos_calls.specs.VmCalls.{vfind}
use Rattle.geos_kernel.proofs.ListedRows.{vfind-reserved-row}
use Rattle.geos_kernel.proofs.VmCalls.{told-calls}
use Rattle.geos_kernel.proofs.kernel.Kernel.vfind.Goals as goal

pub returns-then-uid-eq-GROUP_UID : goal.returns-then-uid-eq-GROUP_UID
returns-then-uid-eq-GROUP_UID g c =
    let d = g.D.Device in
    let v = c.self.inside.vm in
    let s = c.self.inside.blocks in
    let call = vfind c.args.start c.args.uid in
    let row = vfind-reserved-row d.medium v s c.self.invariant.tied c.args.start c.args.uid c.if-uid-eq-GROUP_UID.true in
    told-calls d.medium v s c.args.self.now c.self.view_is row

pub returns : goal.returns
returns g c =
    let d = g.D.Device in
    let v = c.self.inside.vm in
    let s = c.self.inside.blocks in
    let call = vfind c.args.start c.args.uid in
    let row = c.find.ensures.row c.if-uid-eq-GROUP_UID.false s c.self.invariant.tied in
    told-calls d.medium v s c.args.self.now c.self.view_is row
