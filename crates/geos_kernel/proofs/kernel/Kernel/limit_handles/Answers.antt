use Rattle.std.proofs.Common.{subst, sym}
use Rattle.geos_kernel.specs.Kernel.{IsKernel}
use Rattle.geos_kernel.proofs.Limits.{kernel-limited}
use Rattle.geos_kernel.proofs.kernel.Kernel.limit_handles.Goals as goal

pub invariant_of-self : goal.invariant_of-self
invariant_of-self g c = subst (IsKernel g.D.Device.medium c.self.inside.vm) (sym c.limit_handles.ensures)
    (kernel-limited g.D.Device.medium c.self.inside.vm c.self.inside.blocks _ c.self.invariant)
