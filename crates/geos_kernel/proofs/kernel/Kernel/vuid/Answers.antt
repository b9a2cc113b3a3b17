use Rattle.vm_blocks.specs.Refused.{of_uid}
use Rattle.geos_kernel.proofs.VmCalls.{told-calls}
use Rattle.geos_kernel.proofs.kernel.Kernel.vuid.Goals as goal

pub returns : goal.returns
returns g c =
    let d = g.D.Device in
    let v = c.self.inside.vm in
    let s = c.self.inside.blocks in
    let r = of_uid c.uid.result in
    let row = c.uid.ensures.row s c.self.invariant.tied in
    rw c.of_uid.ensures (told-calls d.medium v s c.args.self.now c.self.view_is row)
