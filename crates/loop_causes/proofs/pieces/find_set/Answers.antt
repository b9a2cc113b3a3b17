use Rattle.std.proofs.Common.{sym, subst}
use Rattle.control_graph.specs.Orders.{HasPlace}
use Rattle.loop_causes.proofs.pieces.find_set.Goals as goal

pub returns-in-Some-clause-place : goal.returns-in-Some-clause-place
returns-in-Some-clause-place c = subst (HasPlace c.args.order.now c.args.piece.now) (sym c.in-Some.ensures.at)
    (c.has.ensures.0 c.if-has.true)
