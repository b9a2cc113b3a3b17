use Rattle.std.proofs.Common.{◌%◌, ◌/◌, [], ◌∷◌}
use Rattle.block_handles.proofs.Writes.{written_seen}
use Rattle.block_handles.proofs.arena.Arena.write16.Goals as goal

pub invariant_of-self : goal.invariant_of-self
invariant_of-self c = (written_seen c.self.inside.limits c.self.inside.region c.self.inside.table c.self.inside.index.items
    c.args.self.now c.self.view_is c.self.invariant c.args.at (c.args.word % 256 ∷ c.args.word / 256 ∷ []) c.put16.new.self c.put16.ensures).sound

pub returns : goal.returns
returns c = (written_seen c.self.inside.limits c.self.inside.region c.self.inside.table c.self.inside.index.items c.args.self.now
    c.self.view_is c.self.invariant c.args.at (c.args.word % 256 ∷ c.args.word / 256 ∷ []) c.put16.new.self c.put16.ensures).is
