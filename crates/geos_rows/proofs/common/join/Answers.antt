use Rattle.std.proofs.Common.{sym, ◌∙◌}
use Rattle.geos_rows.proofs.Joining.{joined-least, apart-fit, shaped-agree}
use Rattle.geos_rows.proofs.common.join.Goals as goal

pub returns-then-agree-clause-some : goal.returns-then-agree-clause-some
returns-then-agree-clause-some c =
    let r = c.args.one.now in
    let s = c.args.other.now in
    rw c.joined.ensures (joined-least r s (shaped-agree r s c.shape.ensures c.shape-2.ensures (sym c.agree.ensures ∙ c.if-agree.true)))

pub returns-else-agree-clause-none : goal.returns-else-agree-clause-none
returns-else-agree-clause-none c = apart-fit c.args.one.now c.args.other.now (sym c.agree.ensures ∙ c.if-agree.false)
