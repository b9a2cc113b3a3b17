use Rattle.std.proofs.Common.{ap, ◌∙◌}
use Rattle.geos_calls.specs.ItemCalls.{ilock}
use Rattle.block_handles.specs.Names.{slot_of}
use Rattle.block_handles.specs.Store.{place_of}
use Rattle.db_items.specs.Items.{refers_to}
use Rattle.geos_kernel.specs.View.{kernel_of}
use Rattle.geos_kernel.proofs.ItemLocks.{LocksPart, part-locked, part-refused}
use Rattle.geos_kernel.proofs.Listed.{keeps-mem}
use Rattle.geos_kernel.proofs.Stops.{leaves-kept}
use Rattle.geos_kernel.proofs.There.{no_group-same}
use Rattle.geos_kernel.proofs.VmCalls.{spared-kernel}
use Rattle.geos_kernel.proofs.kernel.Kernel.ilock.Given as given
use Rattle.geos_kernel.proofs.kernel.Kernel.ilock.Goals.{Joined-item_lock_part, in-Ok, in-Err}
use Rattle.geos_kernel.proofs.kernel.Kernel.ilock.Goals as goal

pub invariant_of-self : goal.invariant_of-self
invariant_of-self g c =
    let d = g.D.Device in
    let done = c.item_lock_part in
    let v = c.self.inside.vm in
    let s = c.self.inside.blocks in
    let t = done.new.blocks in
    spared-kernel d.medium v done.new.vm s t c.self.invariant (keeps-mem v s t c.args.group done.ensures.keeps)
    (ilock c.args.group c.args.item c.args.least) (refers_to c.args.group c.args.item done.result) done.ensures.tied done.ensures.row

locked : (g : given.Over) (c : Joined-item_lock_part g) → LocksPart g.D.Device.medium c.args.group c.args.item
    c.args.least c.match-item_lock_part.result c.args.self.now
    (kernel_of g.D.Device.medium c.item_lock_part.new.vm c.item_lock_part.new.blocks)
locked g c =
    let d = g.D.Device in
    let v = c.self.inside.vm in
    let s = c.self.inside.blocks in
    let x = c.item_lock_part.new.vm in
    let t = c.item_lock_part.new.blocks in
    let known = leaves-kept d.medium v s c.is_sure.ensures.kept in
    elim c.match-item_lock_part.branch [
      | in-Ok w ↦ (
          let place = w.place.ensures.place ∙ ap (λ name. place_of t (slot_of name)) w.vm.ensures in
          rw (w.result-is, place) (part-locked d.medium v x s t c.args.self.now c.self.view_is c.self.invariant known
          c.args.group c.args.item c.args.least w.in-Ok.at w.in-Ok.len w.in-Ok.ensures)
          )
      | in-Err w ↦ rw w.result-is (part-refused d.medium v x s t c.args.self.now c.self.view_is c.self.invariant
          known c.args.group c.args.item c.args.least w.in-Err.refusal w.in-Err.ensures)
    ]

pub returns-clause-gives : goal.returns-clause-gives
returns-clause-gives g c = (locked g c).gives

pub returns-clause-stands : goal.returns-clause-stands
returns-clause-stands g c = (locked g c).stands

pub returns-clause-writable : goal.returns-clause-writable
returns-clause-writable g c = (locked g c).writable

pub returns-clause-device : goal.returns-clause-device
returns-clause-device g c = (locked g c).device

pub returns-clause-in_memory : goal.returns-clause-in_memory
returns-clause-in_memory g c = (locked g c).in_memory

pub returns-clause-no_room : goal.returns-clause-no_room
returns-clause-no_room g c = (locked g c).no_room

pub returns-clause-locks : goal.returns-clause-locks
returns-clause-locks g c = (locked g c).locks

pub returns-clause-no_group : goal.returns-clause-no_group
returns-clause-no_group g c =
    let d = g.D.Device in
    let done = c.item_lock_part in
    no_group-same d.medium c.self.inside.vm done.new.vm c.self.inside.blocks done.new.blocks c.args.self.now
    c.self.view_is c.args.group done.result done.ensures.no_group
