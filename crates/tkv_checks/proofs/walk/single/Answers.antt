use Rattle.std.proofs.Common.{refl}
use Rattle.tkv_checks.proofs.Closings.{leave_single}
use Rattle.tkv_checks.proofs.walk.single.Goals as goal

pub returns-then-leaves-clause-single : goal.returns-then-leaves-clause-single
returns-then-leaves-clause-single c = leave_single c.args.image.now c.leaves.new.around c.args.depth c.args.item.now c.args.from c.in-Leave.is
    (c.if-leaves.ensures.leads refl)
