use Rattle.std.proofs.Common.{refl}
use Rattle.geos_terms.specs.Names.{vm}
use Rattle.geos_calls.specs.ChunkCalls.{make_edit, make_row}
use Rattle.geos_calls.specs.ItemCalls.{on_group}
use Rattle.geos_kernel.proofs.ItemLocks.{item-called}
use Rattle.geos_kernel.proofs.Listed.{keeps-mem}
use Rattle.geos_kernel.proofs.Stops.{leaves-kept}
use Rattle.geos_kernel.proofs.VmCalls.{spared-kernel}
use Rattle.geos_kernel.proofs.kernel.Kernel.item_make.Goals as goal

pub invariant_of-self : goal.invariant_of-self
invariant_of-self g c =
    let d = g.D.Device in
    let v = c.self.inside.vm in
    let s = c.self.inside.blocks in
    let done = c.item_make in
    let e = done.ensures in
    spared-kernel d.medium v done.new.vm s done.new.blocks c.self.invariant (keeps-mem v s done.new.blocks c.args.group e.keeps)
    (on_group c.args.group (make_row (vm c.args.group) c.args.make)) done.result e.tied e.row

pub returns : goal.returns
returns g c =
    let d = g.D.Device in
    let done = c.item_make in
    item-called d.medium c.self.inside.vm done.new.vm c.self.inside.blocks done.new.blocks c.args.self.now c.self.view_is c.self.invariant
    (leaves-kept d.medium c.self.inside.vm c.self.inside.blocks c.is_sure.ensures.kept) c.args.group
    (on_group c.args.group (make_row (vm c.args.group) c.args.make)) (make_edit c.args.make) done.result done.ensures (λ choice f. refl)
