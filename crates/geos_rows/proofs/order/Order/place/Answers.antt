use Rattle.std.proofs.Common.{sym, arith}
use Rattle.geos_rows.proofs.Turning.{place-read}
use Rattle.geos_rows.proofs.order.Order.place.Goals as goal

pub returns-clause-value : goal.returns-clause-value
returns-clause-value c =
    sym (place-read c.args.self.now c.args.turn c.at.result (omega (arith, c.lengths.ensures, c.requires)) (c.at.ensures c.at.result))
