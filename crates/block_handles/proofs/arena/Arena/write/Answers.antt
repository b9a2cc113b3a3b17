use Rattle.block_handles.proofs.Writes.{written_seen}
use Rattle.block_handles.proofs.arena.Arena.write.Goals as goal

pub invariant_of-self : goal.invariant_of-self
invariant_of-self c = (written_seen c.self.inside.limits c.self.inside.region c.self.inside.table c.self.inside.index.items
    c.args.self.now c.self.view_is c.self.invariant c.args.at c.args.bytes.now c.put.new.self c.put.ensures).sound

pub returns : goal.returns
returns c = (written_seen c.self.inside.limits c.self.inside.region c.self.inside.table c.self.inside.index.items c.args.self.now
    c.self.view_is c.self.invariant c.args.at c.args.bytes.now c.put.new.self c.put.ensures).is
