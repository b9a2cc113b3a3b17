use Rattle.std.proofs.Common.{◌<◌, subst, sym, ◌-◌}
use Rattle.block_handles.specs.Names.{slot_of}
use Rattle.block_handles.specs.Store.{locks_of}
use Rattle.geos_kernel.specs.View.{IsLocked}
use Rattle.geos_kernel.proofs.Locks.{unlock-calls, unlock-kernel}
use Rattle.geos_kernel.proofs.Seen.{blocks-alone, calls-seen}
use Rattle.geos_kernel.specs.Kernel.{Remain}
use Rattle.block_handles.proofs.Layouts.{there_of_locks}
use Rattle.geos_kernel.proofs.Remaining.{locks-remain}
use Rattle.geos_kernel.proofs.kernel.Kernel.munlock.Goals as goal

pub unlock-requires : goal.unlock-requires
unlock-requires g c = subst (λ s. IsLocked s.core c.args.name) (sym c.self.view_is) c.requires

pub invariant_of-self : goal.invariant_of-self
invariant_of-self g c =
    let count : 0 < locks_of c.self.inside.blocks (slot_of c.args.name) = subst (λ s. IsLocked s.core c.args.name) (sym c.self.view_is) c.requires in
    unlock-kernel g.D.Device.medium c.self.inside.vm c.self.inside.blocks c.args.name c.self.invariant c.unlock.new.self count c.unlock.ensures

pub returns-clause-calls : goal.returns-clause-calls
returns-clause-calls g c =
    let v = c.self.inside.vm in
    let new = c.unlock.new.self in
    let count : 0 < locks_of c.self.inside.blocks (slot_of c.args.name) = subst (λ s. IsLocked s.core c.args.name) (sym c.self.view_is) c.requires in
    let d = g.D.Device in
    calls-seen d.medium v c.self.inside.blocks c.args.self.now c.self.view_is
    (unlock-calls d.medium v c.self.inside.blocks c.args.name c.self.invariant new count c.unlock.ensures)

pub returns-clause-vm : goal.returns-clause-vm
returns-clause-vm g c = blocks-alone g.D.Device.medium c.self.inside.vm c.self.inside.blocks c.unlock.new.self c.args.self.now c.self.view_is

pub returns-clause-remain : goal.returns-clause-remain
returns-clause-remain g c =
    let count : 0 < locks_of c.self.inside.blocks (slot_of c.args.name) = subst (λ s. IsLocked s.core c.args.name) (sym c.self.view_is) c.requires in
    subst (λ k. Remain k.core.blocks c.unlock.new.self 0) c.self.view_is
    (locks-remain c.self.inside.blocks c.unlock.new.self (slot_of c.args.name) (locks_of c.self.inside.blocks (slot_of c.args.name) - 1)
    c.self.invariant.laid (there_of_locks c.self.inside.blocks (slot_of c.args.name) count) c.unlock.ensures)
