use Rattle.geos_kernel.proofs.VmCalls.{told-calls}
use Rattle.geos_kernel.proofs.kernel.Kernel.vgetmap.Goals as goal

pub returns : goal.returns
returns g c =
    let d = g.D.Device in
    let v = c.self.inside.vm in
    let s = c.self.inside.blocks in
    let row = c.map.ensures.row s c.self.invariant.tied in
    told-calls d.medium v s c.args.self.now c.self.view_is row
