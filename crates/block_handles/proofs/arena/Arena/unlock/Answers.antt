use Rattle.block_handles.proofs.Steps.{locked_seen, unlock_put}
use Rattle.block_handles.proofs.arena.Arena.unlock.Goals as goal

pub unlock-requires : goal.unlock-requires
unlock-requires c = locked_seen c.self.inside.limits c.self.inside.region c.self.inside.table c.self.inside.index.items c.args.self.now
    c.self.view_is c.self.invariant c.args.slot c.requires

pub invariant_of-self : goal.invariant_of-self
invariant_of-self c = (unlock_put c.self.inside.limits c.self.inside.region c.self.inside.table c.self.inside.index.items c.args.self.now
    c.self.view_is c.self.invariant c.args.slot c.requires c.unlock.new.self c.unlock.ensures).sound

pub returns : goal.returns
returns c = (unlock_put c.self.inside.limits c.self.inside.region c.self.inside.table c.self.inside.index.items c.args.self.now
    c.self.view_is c.self.invariant c.args.slot c.requires c.unlock.new.self c.unlock.ensures).is
