use Rattle.std.proofs.Common.{ap, ◌∙◌, subst}
use Rattle.block_handles.specs.Layout.{IsLaidOut}
use Rattle.block_handles.specs.Stretch.{vm_locks}
use Rattle.geos_kernel.proofs.kernel.Kernel.vm_locks.Goals as goal

pub returns-clause-sum : goal.returns-clause-sum
returns-clause-sum g c = c.vm_locks.ensures.sum ∙ ap (λ k. vm_locks k.core.blocks) c.self.view_is

pub returns-clause-laid : goal.returns-clause-laid
returns-clause-laid g c = subst (λ k. IsLaidOut k.core.blocks) c.self.view_is c.vm_locks.ensures.laid
