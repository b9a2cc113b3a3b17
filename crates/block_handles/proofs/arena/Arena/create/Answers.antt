use Rattle.block_handles.proofs.Steps.{create_seen}
use Rattle.block_handles.proofs.arena.Arena.create.Goals as goal

pub invariant_of-self : goal.invariant_of-self
invariant_of-self c = rw c.put.ensures ((create_seen c.self.inside.limits c.self.inside.region c.self.inside.table c.self.inside.index.items
    c.args.self.now c.self.view_is c.self.invariant c.args.slot c.args.at c.args.size c.requires.slot c.requires.legal
    c.requires.room c.requires.free c.fill.new.self c.fill.ensures).sound)

pub returns-clause-store : goal.returns-clause-store
returns-clause-store c = rw c.put.ensures ((create_seen c.self.inside.limits c.self.inside.region c.self.inside.table c.self.inside.index.items
    c.args.self.now c.self.view_is c.self.invariant c.args.slot c.args.at c.args.size c.requires.slot c.requires.legal
    c.requires.room c.requires.free c.fill.new.self c.fill.ensures).is)

pub returns-clause-laid : goal.returns-clause-laid
returns-clause-laid c = rw c.put.ensures ((create_seen c.self.inside.limits c.self.inside.region c.self.inside.table c.self.inside.index.items
    c.args.self.now c.self.view_is c.self.invariant c.args.slot c.args.at c.args.size c.requires.slot c.requires.legal
    c.requires.room c.requires.free c.fill.new.self c.fill.ensures).laid)
