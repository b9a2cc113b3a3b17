use Rattle.geos_flow.proofs.Blocks.{none-left}
use Rattle.geos_flow.proofs.pending.Pending.settle_block.Goals as goal

pub invariant_of-self : goal.invariant_of-self
invariant_of-self c =
    rw (c.from-then-not-is_any.ensures)
    (none-left c.self.inside.blocks c.self.inside.marks c.args.block (c.is_any.ensures c.if-not-is_any.true) c.self.invariant)
