use Rattle.block_handles.proofs.Steps.{remove_seen}
use Rattle.block_handles.proofs.arena.Arena.remove.Goals as goal

pub invariant_of-self : goal.invariant_of-self
invariant_of-self c = rw c.free.ensures ((remove_seen c.self.inside.limits c.self.inside.region c.self.inside.table c.self.inside.index.items
    c.args.self.now c.self.view_is c.self.invariant c.args.slot c.entry_of-entry.result c.entry_of-entry.ensures).sound)

pub returns-clause-store : goal.returns-clause-store
returns-clause-store c = rw c.free.ensures ((remove_seen c.self.inside.limits c.self.inside.region c.self.inside.table c.self.inside.index.items
    c.args.self.now c.self.view_is c.self.invariant c.args.slot c.entry_of-entry.result c.entry_of-entry.ensures).is)

pub returns-clause-laid : goal.returns-clause-laid
returns-clause-laid c = rw c.free.ensures ((remove_seen c.self.inside.limits c.self.inside.region c.self.inside.table c.self.inside.index.items
    c.args.self.now c.self.view_is c.self.invariant c.args.slot c.entry_of-entry.result
    c.entry_of-entry.ensures).laid)
