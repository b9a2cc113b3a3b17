use Rattle.geos_kernel.proofs.VmCalls.{told-calls}
use Rattle.geos_kernel.proofs.kernel.Kernel.igetmap.Goals as goal

pub returns : goal.returns
returns g c =
    let d = g.D.Device in
    let v = c.self.inside.vm in
    let s = c.self.inside.blocks in
    let r = c.map_item.result in
    let row = c.map_item.ensures.row s c.self.invariant.tied in
    told-calls d.medium v s c.args.self.now c.self.view_is row
