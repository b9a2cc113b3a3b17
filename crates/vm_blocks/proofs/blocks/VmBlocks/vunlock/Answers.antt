use Rattle.std.proofs.Common.{◌≡◌, ◌-◌, ap, refl, ◌∙◌}
use Rattle.block_handles.specs.Change.{with_lock_less}
use Rattle.block_handles.specs.Names.{slot_of}
use Rattle.block_handles.specs.Store.{locks_of}
use Rattle.block_handles.proofs.Laws.{handle_of_there}
use Rattle.block_handles.proofs.Layouts.{there_of_locks}
use Rattle.geos_terms.specs.Names.{vm}
use Rattle.vm_blocks.specs.View.{vm_slot}
use Rattle.vm_blocks.proofs.Counts.{locked-tied}
use Rattle.vm_blocks.proofs.LockRows.{unlock-row}
use Rattle.vm_blocks.proofs.blocks.VmBlocks.vunlock.Goals as goal

pub returns : goal.returns
returns g c =
    let d = g.D.Device in
    let v = c.args.self.now in
    let s = c.args.blocks.now in
    let t = c.unlock.new.self in
    let h = c.args.handle in
    let q = c.requires in
    let less : t ≡ with_lock_less s (vm_slot h) = c.unlock.ensures ∙ ap (λ n. with_lock_less s (slot_of n)) c.vm.ensures in
    let there = there_of_locks s (vm_slot h) q.locked in
    record {
      tied = locked-tied d.medium v s t h (locks_of s (vm_slot h) - 1) (handle_of_there s s (vm h) refl q.tied.laid there) q.tied there less;
      less = less;
      row = unlock-row d.medium v s h q.tied t q.locked less;
    }
