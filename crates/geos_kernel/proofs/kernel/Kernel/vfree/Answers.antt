use Rattle.std.proofs.Common.{◌≡◌, false, true, ◌<◌, refl, subst}
use Rattle.geos_calls.specs.VmCalls.{free_listed}
use Rattle.block_handles.specs.Store.{locks_of}
use Rattle.vm_blocks.specs.declared.error.FreeError.TheVariants.{Locked}
use Rattle.vm_blocks.specs.Refused.{of_free}
use Rattle.vm_blocks.specs.View.{vm_slot}
use Rattle.db_items.specs.Groups.{IsGroup}
use Rattle.geos_kernel.proofs.ListedRows.{free-group-row, free-row}
use Rattle.geos_kernel.proofs.Seen.{calls-seen}
use Rattle.geos_kernel.proofs.VmCalls.{freed-file, freed-spares, not-locked-ok, quiet-calls, spared-kernel, told-calls}
use Rattle.geos_kernel.specs.Kernel.{Remain}
use Rattle.geos_kernel.proofs.Remaining.{dropped-remain}
use Rattle.geos_kernel.proofs.kernel.Kernel.vfree.Goals as goal

pub returns-then-is_group-clause-calls : goal.returns-then-is_group-clause-calls
returns-then-is_group-clause-calls g c =
    let d = g.D.Device in
    let v = c.self.inside.vm in
    let s = c.self.inside.blocks in
    told-calls d.medium v s c.args.self.now c.self.view_is
    (free-group-row d.medium v s c.self.invariant.tied c.args.handle (c.if-is_group.ensures.0 refl))

pub invariant_of-self : goal.invariant_of-self
invariant_of-self g c =
    let d = g.D.Device in
    let v = c.self.inside.vm in
    let s = c.self.inside.blocks in
    let done = c.vfree-freed in
    let w = done.new.self in
    let t = done.new.blocks in
    let r = done.result in
    let e = done.ensures in
    let h = c.args.handle in
    let free = not-locked-ok r Locked (0 < locks_of s (vm_slot h)) e.locked.1 in
    spared-kernel d.medium v w s t c.self.invariant (freed-spares v w s t h r c.self.invariant.laid e.drops e.err free).beside
    (free_listed h) (of_free r) e.tied e.row

pub returns-clause-calls : goal.returns-clause-calls
returns-clause-calls g c =
    let d = g.D.Device in
    let v = c.self.inside.vm in
    let s = c.self.inside.blocks in
    let done = c.vfree-freed in
    let w = done.new.self in
    let t = done.new.blocks in
    let r = done.result in
    let e = done.ensures in
    let h = c.args.handle in
    let free = not-locked-ok r Locked (0 < locks_of s (vm_slot h)) e.locked.1 in
    let none : IsGroup v h → ⊥ = λ group. (let is : false ≡ true = c.if-is_group.ensures.1 group in absurd cc) in
    let row = free-row d.medium v s c.self.invariant.tied h none w t (of_free r) e.row in
    rw c.of_free.ensures (calls-seen d.medium v s c.args.self.now c.self.view_is
    (quiet-calls d.medium v w s t (freed-file v w s t h r e.state e.err) row (freed-spares v w s t h r c.self.invariant.laid e.drops e.err free)))

pub returns-clause-remain : goal.returns-clause-remain
returns-clause-remain g c = subst (λ k. Remain k.core.blocks c.vfree-freed.new.blocks c.args.handle) c.self.view_is
    (dropped-remain c.self.inside.blocks c.vfree-freed.new.blocks _ c.args.handle c.vfree-freed.result
    c.vfree-freed.ensures.drops c.vfree-freed.ensures.err)
