use Rattle.geos_flow.proofs.Blocks.{less-in}
use Rattle.geos_flow.proofs.pending.Pending.take.Goals as goal

pub invariant_of-self : goal.invariant_of-self
invariant_of-self c = rw (c.from.ensures) (less-in c.self.inside.blocks c.self.inside.marks c.args.pc c.self.told.0 c.requires c.self.invariant)
