use Rattle.std.proofs.Common.{sym, arith}
use Rattle.geos_rows.proofs.Turning.{turn-read}
use Rattle.geos_rows.proofs.order.Order.turn.Goals as goal

pub returns-clause-value : goal.returns-clause-value
returns-clause-value c =
    sym (turn-read c.args.self.now c.args.pc c.at.result (omega (arith, c.lengths.ensures, c.requires)) (c.at.ensures c.at.result))
