use Rattle.std.proofs.Common.{arith}
use Rattle.geos_rows.proofs.Fitting.{copies-in, copies-fit}
use Rattle.geos_rows.proofs.rows.settle.Goals as goal

pub returns-clause-fit : goal.returns-clause-fit
returns-clause-fit c = λ e.
    let body = c.args.body.now in
    let from = c.else-has_widened.flowing in
    copies-fit body.image.now body.r from c.args.known.now c.copy_rows-2.new.known (omega (arith, body.begins, body.ends, body.some))
    (copies-in body from c.args.known.now c.copy_rows-2.new.known c.copy_rows-2.ensures) (c.all_fit.ensures.fit c.if-not-all_fit.false)
