use Rattle.std.proofs.Common.{sym, arith}
use Rattle.std.proofs.lemmas.Result.{err_from_is_err_and}
use Rattle.geos_image.proofs.Items.{routines-more, routines-fault, routines-end}
use Rattle.geos_image.proofs.Pushes.{are_routines-push, total_count-push}
use Rattle.geos_image.proofs.reader.routines.routines_at.Goals as goal

pub returns-in_err-routine-clause-exact : goal.returns-in_err-routine-clause-exact
returns-in_err-routine-clause-exact c =
    let p = err_from_is_err_and c.from_residual.result c.from_residual.ensures.1 in
    rw (p.1, p.2) (routines-fault c.args.borrows c.args.bytes.now c.args.count _ c.loop.routines.items c.loop.counter
    c.loop.at c.in_err-routine.field-0.0
    c.loop-test.true (rw c.deref.ensures.value at (sym c.in_err-routine.ensures.exact)) c.loop.invariant.4)

pub loop-preserved : goal.loop-preserved
loop-preserved c =
    let read = rw c.deref.ensures.value at (sym c.in_ok-routine.ensures.exact) in
    let legal = rw c.deref.ensures.value at c.in_ok-routine.ensures.legal in (
      omega arith,
      omega (arith, c.in_ok-push.ensures.len, c.loop.invariant.1),
      rw (c.in_ok-push.ensures.items, total_count-push c.loop.routines.items c.in_ok-routine.routine) legal.1,
      rw c.in_ok-push.ensures.items (are_routines-push c.args.borrows c.loop.routines.items c.in_ok-routine.routine c.loop.invariant.3 legal.0),
      rw c.in_ok-push.ensures.items (routines-more c.args.borrows c.args.bytes.now c.args.count _ c.loop.routines.items
          c.loop.counter c.loop.at c.in_ok-routine.routine c.loop-test.true read c.loop.invariant.4),
    )

pub returns-clause-exact : goal.returns-clause-exact
returns-clause-exact c = routines-end c.args.borrows c.args.bytes.now c.args.count _ c.loop.routines.items c.loop.counter
    c.loop.at c.loop-test.false c.loop.invariant.4
