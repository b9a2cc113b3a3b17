use Rattle.std.proofs.Common.{Ok, subst}
use Rattle.geos_calls.specs.Calls.{unlock}
use Rattle.geos_kernel.specs.Kernel.{Calls}
use Rattle.geos_kernel.proofs.VmCalls.{vm-named}
use Rattle.geos_kernel.proofs.kernel.Kernel.vunlock.Goals as goal

pub returns-clause-calls : goal.returns-clause-calls
returns-clause-calls g c =
    subst (λ name. Calls (g.D.Device.medium.honest c.args.self.now.device) (unlock name) (Ok tt) c.args.self.now.core c.munlock.new.self.core)
    (vm-named c.args.name c.requires.kind) c.munlock.ensures.calls
