use Rattle.std.proofs.Common.{Bool, ◌∙◌, arith, subst}
use Rattle.geos_verify.proofs.Places.{item_at}
use Rattle.geos_rows.specs.Flow.{FlowsAnew}
use Rattle.geos_rows.proofs.Weakening.{flows-never, fits-reached}
use Rattle.geos_rows.proofs.rows.find_some_rows.Goals as goal

pub returns-clause-flows : goal.returns-clause-flows
returns-clause-flows c =
    let body = c.args.body.now in
    let image = body.image.now in
    let known = c.find_rows_in.new.known in
    let never = subst (λ (b : Bool). FlowsAnew image body.r known b) c.if-find_rows_in.false c.find_rows_in.ensures.flows in
    flows-never image body.r known c.find_weakest.new.known c.find_weakest.result never

pub returns-clause-fit : goal.returns-clause-fit
returns-clause-fit c =
    let body = c.args.body.now in
    let image = body.image.now in
    let routine = item_at image.routines body.r body.there in
    fits-reached image body.r (omega (arith, body.begins, body.ends, body.some)) routine.0 routine.1 c.find_weakest.new.known c.find_weakest.result
    c.find_weakest.ensures.fit

pub returns-clause-stays : goal.returns-clause-stays
returns-clause-stays c = λ k lt. c.find_weakest.ensures.stays k lt ∙ c.find_rows_in.ensures.stays k lt
