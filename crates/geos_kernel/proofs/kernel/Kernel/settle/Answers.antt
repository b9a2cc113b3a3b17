use Rattle.std.proofs.Common.{ap, ◌∙◌}
use Rattle.geos_kernel.specs.View.{KernelOn}
use Rattle.geos_kernel.proofs.Settled.{settled-core, settled-kernel}
use Rattle.geos_kernel.proofs.kernel.Kernel.settle.Goals as goal

pub invariant_of-self : goal.invariant_of-self
invariant_of-self g c = (let d = g.D.Device in let e = c.settle.ensures in
    settled-kernel d.medium c.self.inside.vm c.settle.new.self c.self.inside.blocks e.same e.rests e.failed c.self.invariant)

pub returns-clause-core : goal.returns-clause-core
returns-clause-core g c =
    let d = g.D.Device in
    let e = c.settle.ensures in
    settled-core d.medium c.self.inside.vm c.settle.new.self c.self.inside.blocks e.same e.rests e.failed
    ∙ ap (λ (k : KernelOn g.row.D.Denot). k.core) c.self.view_is
