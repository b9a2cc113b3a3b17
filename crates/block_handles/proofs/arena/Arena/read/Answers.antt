use Rattle.std.proofs.Common.{◌+◌, ◌≤◌, length, sym, ap, subst, ◌∙◌}
use Rattle.block_handles.specs.Offsets.{ReadsAs}
use Rattle.block_handles.proofs.Views.{length-part}
use Rattle.block_handles.proofs.Writes.{reads_seen}
use Rattle.block_handles.proofs.arena.Arena.read.Goals as goal

pub returns-clause-read : goal.returns-clause-read
returns-clause-read c =
    subst (ReadsAs c.args.self.now c.args.at) (sym c.slice.ensures)
    (reads_seen c.self.inside.limits c.self.inside.region c.self.inside.table c.self.inside.index.items c.args.self.now c.self.view_is
    c.self.invariant c.args.at c.args.n (subst (λ s. c.args.at + c.args.n ≤ s.len.region) (sym c.self.view_is) c.requires))

pub returns-clause-long : goal.returns-clause-long
returns-clause-long c = ap length c.slice.ensures ∙ length-part c.self.inside.region c.args.at c.args.n
    (subst (λ s. c.args.at + c.args.n ≤ s.len.region) (sym c.self.view_is) c.requires)
