use Rattle.std.proofs.Common.{◌∙◌}
use Rattle.block_handles.proofs.Writes.{byte_seen}
use Rattle.block_handles.proofs.arena.Arena.read8.Goals as goal

pub returns : goal.returns
returns c = λ slot covers. c.get8.ensures ∙ byte_seen c.self.inside.limits c.self.inside.region c.self.inside.table c.self.inside.index.items
    c.args.self.now c.self.view_is c.self.invariant slot c.args.at covers
