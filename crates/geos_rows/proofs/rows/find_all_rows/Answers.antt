use Rattle.std.proofs.Common.{◌≡◌, ◌<◌, ℕ, Bool, Option, None, length, sym, ap, subst, ◌∙◌, arith}
use Rattle.std.specs.Prelude.{is_none, IfSome, IfNone}
use Rattle.std.proofs.lemmas.Bool.{false≢true}
use Rattle.geos_image.specs.Parts.{Parts, start_of}
use Rattle.geos_rows.specs.Flow.{FlowsAnew, HaveFlowed, StaysBefore}
use Rattle.geos_rows.specs.Reached.{FitWhereReached}
use Rattle.geos_rows.specs.Why.{AreApart}
use Rattle.geos_flow.specs.declared.apart.Apart.{Apart}
use Rattle.geos_rows.proofs.Flows.{flows-anew, have_flowed-more}
use Rattle.geos_rows.proofs.Meeting.{apart-in}
use Rattle.geos_rows.proofs.Reaching.{fit-before, fit-more}
use Rattle.geos_rows.proofs.rows.find_all_rows.Goals as goal

pub loop-r-init : goal.loop-r-init
loop-r-init c = record { flowed = λ want all q lt. absurd (omega arith); fit = λ q lt. absurd (omega arith) }

pub returns-in-Some-clause-found : goal.returns-in-Some-clause-found
returns-in-Some-clause-found c = λ all. absurd (omega (arith, c.count-r-end.ensures.count))

pub returns-in-Some-clause-none : goal.returns-in-Some-clause-none
returns-in-Some-clause-none c = λ lt want forward holds.
    let anew = flows-anew c.args.image.now c.body_of.result.image.now c.body_of.result.r c.loop-r.r c.find_some_rows.new.known
    (is_none c.in_ok-apart.field-0) c.body_of.ensures.image c.body_of.ensures.r c.in_ok-apart.ensures.flows in
    false≢true (sym (ap is_none c.in-Some.is) ∙ (anew want forward holds).0)

pub returns-in-Some-clause-apart : goal.returns-in-Some-clause-apart
returns-in-Some-clause-apart c =
    let here = c.body_of.result in
    let are = subst (λ (o : Option Apart). IfSome o (AreApart here.image.now here.r)) c.in-Some.is c.in_ok-apart.ensures.apart in
    apart-in here.image.now c.args.image.now here.r c.loop-r.r c.in-Some.apart c.body_of.ensures.image c.body_of.ensures.r are

pub returns-in-Some-clause-fit : goal.returns-in-Some-clause-fit
returns-in-Some-clause-fit c =
    let image = c.args.image.now in
    let here = c.body_of.result in
    let start = here.begins ∙ ap (λ (x : Parts). start_of x.routines here.r) c.body_of.ensures.image
    ∙ ap (start_of image.routines) c.body_of.ensures.r in
    let stay = subst (λ (n : ℕ). StaysBefore n c.loop-r.known c.find_some_rows.new.known) start c.find_some_rows.ensures.stays in
    fit-before image c.count-r-end.ensures.legal c.loop-r.known c.find_some_rows.new.known c.loop-r.r
    (omega (arith, c.count-r-end.ensures.count)) c.loop-r.invariant.fit stay

pub loop-r-preserved : goal.loop-r-preserved
loop-r-preserved c =
    let image = c.args.image.now in
    let next = c.find_some_rows.new.known in
    let r = c.loop-r.r in
    let here = c.body_of.result in
    let within : r < length image.routines = omega (arith, c.count-r-end.ensures.count) in
    let legal = c.count-r-end.ensures.legal in
    let start = here.begins ∙ ap (λ (x : Parts). start_of x.routines here.r) c.body_of.ensures.image
    ∙ ap (start_of image.routines) c.body_of.ensures.r in
    let stay = subst (λ (n : ℕ). StaysBefore n c.loop-r.known next) start c.find_some_rows.ensures.stays in
    let left = c.in_ok-apart.field-0 in
    let empty : left ≡ None = c.in-None.is in
    let anew = flows-anew image here.image.now here.r r next (is_none left) c.body_of.ensures.image
    c.body_of.ensures.r c.in_ok-apart.ensures.flows in
    let fit_here = subst (λ (o : Option Apart). IfNone o (FitWhereReached here.image.now here.r next)) empty c.in_ok-apart.ensures.fit in
    let fit = subst (λ (x : Parts). FitWhereReached x r next) c.body_of.ensures.image
    (subst (λ (n : ℕ). FitWhereReached here.image.now n next) c.body_of.ensures.r fit_here) in
    record {
      flowed = have_flowed-more image legal c.loop-r.known next r within c.loop-r.invariant.flowed stay
          (subst (λ (b : Bool). FlowsAnew image r next b) (ap is_none empty) anew);
      fit = fit-more image next r (fit-before image legal c.loop-r.known next r within c.loop-r.invariant.fit stay) fit;
    }

pub returns-clause-found : goal.returns-clause-found
returns-clause-found c = λ all. subst (λ (n : ℕ). HaveFlowed c.args.image.now c.loop-r.known n)
    (omega (arith, c.loop-r-test.false, c.count-r-end.ensures.count, c.count.ensures.count)) c.loop-r.invariant.flowed

pub returns-clause-none : goal.returns-clause-none
returns-clause-none c = λ lt. absurd (omega (arith, c.count.ensures.count))

pub returns-clause-fit : goal.returns-clause-fit
returns-clause-fit c = λ q lt. c.loop-r.invariant.fit q (omega (arith, c.loop-r-test.false, c.count-r-end.ensures.count, c.count.ensures.count))
