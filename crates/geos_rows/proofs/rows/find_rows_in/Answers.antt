use Rattle.std.proofs.Common.{◌*◌, ◌+◌, refl, sym, ◌∙◌, arith}
use Rattle.std.proofs.lemmas.Bool.{false≢true}
use Rattle.geos_image.specs.Parts.{start_of}
use Rattle.geos_verify.proofs.Places.{item_at}
use Rattle.geos_code.proofs.Ends.{code-length}
use Rattle.geos_rows.proofs.Flows.{all-reached}
use Rattle.geos_rows.proofs.Reaching.{copies-keep, kept-in, kept-fits, kept-flows}
use Rattle.geos_rows.proofs.rows.find_rows_in.Goals as goal

pub returns-then-not-search-clause-flows : goal.returns-then-not-search-clause-flows
returns-then-not-search-clause-flows c = λ want forward holds. absurd
    (false≢true (sym c.if-not-search.true ∙ (c.search.ensures.flows want forward holds).0))

pub returns-clause-flows : goal.returns-clause-flows
returns-clause-flows c = λ want forward holds.
    let body = c.args.body.now in
    let image = body.image.now in
    let known = c.search.new.known in
    let routine = item_at image.routines body.r body.there in
    let F = (c.search.ensures.flows want forward holds).1 in
    let all = all-reached image body.r forward routine.0 routine.1 want known F (omega (arith, code-length image, body.ends, body.room)) in
    let K = kept-in body known known c.complete.new.known c.complete.ensures in (
      refl,
      kept-flows image body.r want known known c.complete.new.known K (omega (arith, body.begins, body.ends, body.some))
          F.fit.len all (2 * start_of image.routines (body.r + 1)) F,
    )

pub returns-clause-fit : goal.returns-clause-fit
returns-clause-fit c = λ e.
    let body = c.args.body.now in
    let image = body.image.now in
    let known = c.search.new.known in
    let routine = item_at image.routines body.r body.there in
    let K = kept-in body known known c.complete.new.known c.complete.ensures in
    kept-fits image body.r (omega (arith, body.begins, body.ends, body.some)) routine.0 routine.1 known
    (c.search.ensures.fit c.if-not-search.false) known c.complete.new.known K

pub returns-clause-stays : goal.returns-clause-stays
returns-clause-stays c = λ k lt. c.complete.ensures.stays k lt ∙ c.search.ensures.stays k lt

-- where something is known at each instruction, nothing is weakened
pub returns-then-weaken-clause-flows : goal.returns-then-weaken-clause-flows
returns-then-weaken-clause-flows c = λ want forward holds.
    let body = c.args.body.now in
    let image = body.image.now in
    let routine = item_at image.routines body.r body.there in
    let F = (c.search.ensures.flows want forward holds).1 in
    let all = all-reached image body.r forward routine.0 routine.1 want c.search.new.known F
    (omega (arith, code-length image, body.ends, body.room)) in
    absurd (c.weaken.ensures.some c.if-weaken.true all)

pub returns-then-weaken-clause-fit : goal.returns-then-weaken-clause-fit
returns-then-weaken-clause-fit c = λ e.
    let body = c.args.body.now in
    let image = body.image.now in
    let routine = item_at image.routines body.r body.there in
    let K = kept-in body c.weaken.new.weaker c.search.new.known c.copy_rows.new.known
    (copies-keep body.start body.end c.weaken.new.weaker c.search.new.known c.copy_rows.new.known c.copy_rows.ensures) in
    kept-fits image body.r (omega (arith, body.begins, body.ends, body.some)) routine.0 routine.1 c.weaken.new.weaker
    (c.weaken.ensures.fit c.if-weaken.true) c.search.new.known c.copy_rows.new.known K

pub returns-then-weaken-clause-stays : goal.returns-then-weaken-clause-stays
returns-then-weaken-clause-stays c = λ k lt. c.copy_rows.ensures.stays k lt ∙ c.search.ensures.stays k lt
