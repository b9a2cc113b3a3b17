use Rattle.std.proofs.Common.{sym, ◌∙◌}
use Rattle.geos_code.proofs.Back.{within-some}
use Rattle.geos_code.proofs.edges.edge_in.Goals as goal

pub returns-then-to-body-clause-value : goal.returns-then-to-body-clause-value
returns-then-to-body-clause-value c =
    within-some c.args.body.now c.args.pc c.args.branch c.instr-i.result.now c.requires c.instr-i.ensures.there
    c.edge_end-to.result c.edge_end-to.ensures (sym c.has_edge.ensures ∙ c.if-has_edge.true) c.if-body-to.true c.if-to-body.true
