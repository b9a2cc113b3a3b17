use Rattle.std.proofs.Common.{◌∙◌, sym, true≢false}
use Rattle.geos_machine.proofs.LentBlocks.{lends-all}
use Rattle.geos_machine.proofs.LentSums.{lent-counted, lent-each, lent-sum}
use Rattle.geos_machine.proofs.lent.are_counted.Goals as goal

pub returns-then-vm_locks-borrowed_count : goal.returns-then-vm_locks-borrowed_count
returns-then-vm_locks-borrowed_count g c = (
  λ no. absurd (true≢false (sym no)),
  λ lends. absurd (c.if-vm_locks-borrowed_count.true (c.vm_locks.ensures.sum
      ∙ lent-sum c.args.kernel.now.core c.vm_locks.ensures.laid c.args.states.now c.args.handles.now c.requires lends ∙ sym c.borrowed_count.ensures)),
)

pub returns : goal.returns
returns g c =
    let k = c.args.kernel.now.core in
    let known = c.memory_is_legal.ensures.file in (
      λ is. lends-all (g.D.Device.medium.honest c.args.kernel.now.device) k known.0 known.1
          (c.memory_is_legal.ensures.locks known.0 known.1) c.args.states.now c.args.handles.now c.requires
          (λ h low high. lent-counted k c.vm_locks.ensures.laid c.args.states.now c.args.handles.now c.requires
          (sym c.vm_locks.ensures.sum ∙ c.if-vm_locks-borrowed_count.false ∙ c.borrowed_count.ensures)
          (sym c.are_each_counted.ensures ∙ is) h (low, high)),
      λ lends. c.are_each_counted.ensures ∙ lent-each k c.vm_locks.ensures.laid c.args.states.now c.args.handles.now c.requires lends,
    )
