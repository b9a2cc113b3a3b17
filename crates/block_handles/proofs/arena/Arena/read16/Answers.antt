use Rattle.std.proofs.Common.{◌+◌, ◌*◌, ◌∙◌}
use Rattle.block_handles.proofs.Writes.{byte_seen}
use Rattle.block_handles.proofs.arena.Arena.read16.Goals as goal

pub returns : goal.returns
returns c = λ low high first second. c.get16.ensures
    ∙ (λ k. byte_seen c.self.inside.limits c.self.inside.region c.self.inside.table c.self.inside.index.items c.args.self.now
    c.self.view_is c.self.invariant low c.args.at first k + 256 * byte_seen c.self.inside.limits c.self.inside.region c.self.inside.table
    c.self.inside.index.items c.args.self.now c.self.view_is c.self.invariant high (c.args.at + 1) second k)
