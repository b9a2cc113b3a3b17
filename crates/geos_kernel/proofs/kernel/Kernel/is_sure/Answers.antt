use Rattle.std.proofs.Common.{subst}
use Rattle.geos_kernel.specs.Files.{LeavesKept}
use Rattle.geos_kernel.proofs.Stops.{leaves-kept}
use Rattle.geos_kernel.proofs.kernel.Kernel.is_sure.Goals as goal

pub returns-clause-kept : goal.returns-clause-kept
returns-clause-kept g c = subst (λ k. LeavesKept g.D.Device.medium k) c.self.view_is
    (leaves-kept g.D.Device.medium c.self.inside.vm c.self.inside.blocks c.is_sure.ensures.kept)
