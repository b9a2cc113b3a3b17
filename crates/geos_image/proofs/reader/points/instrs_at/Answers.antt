use Rattle.std.proofs.Common.{sym, arith}
use Rattle.std.proofs.lemmas.Result.{err_from_is_err_and}
use Rattle.geos_image.specs.Legal.{is_instr}
use Rattle.geos_image.specs.Reading.{instr_at}
use Rattle.geos_image.proofs.Items.{items-more, items-fault}
use Rattle.geos_image.proofs.Pushes.{list_all-push}
use Rattle.geos_image.proofs.reader.points.instrs_at.Goals as goal

pub returns-in_err-instr-clause-exact : goal.returns-in_err-instr-clause-exact
returns-in_err-instr-clause-exact c =
    let p = err_from_is_err_and c.from_residual-in_err-instr.result c.from_residual-in_err-instr.ensures.1 in
    rw (p.1, p.2) (items-fault (instr_at c.args.routines c.args.instrs c.args.bytes.now) 10 c.args.start c.args.instrs
    _ c.loop.code.items c.loop.counter c.loop.at c.in_err-instr.field-0.0
    c.loop-test.true (sym c.in_err-instr.ensures.exact) c.loop.invariant.3)

pub loop-preserved : goal.loop-preserved
loop-preserved c = (
  omega arith,
  omega (arith, c.push_reserved.ensures.len),
  rw c.push_reserved.ensures.items (list_all-push (is_instr c.args.routines c.args.instrs) c.loop.code.items
      c.in_ok-instr.instr c.loop.invariant.2 c.in_ok-instr.ensures.legal),
  rw c.push_reserved.ensures.items (items-more (instr_at c.args.routines c.args.instrs c.args.bytes.now) 10 c.args.start
      c.args.instrs _ c.loop.code.items c.loop.counter c.loop.at c.in_ok-instr.instr
      c.loop.invariant.0 c.loop-test.true (sym c.in_ok-instr.ensures.exact) c.loop.invariant.3),
  omega (arith, c.push_reserved.ensures.capacity, c.loop.invariant.4),
)
