use Rattle.std.proofs.Common.{◌+◌, ℕ, List, Option, subst, arith, sym, ◌∙◌}
use Rattle.std.specs.Prelude.{Result, IfOk, IfErr}
use Rattle.std.proofs.lemmas.Bool.{false≢true}
use Rattle.geos_image.specs.Parts.{start_of}
use Rattle.geos_rows.specs.Meeting.{HaveAllGone}
use Rattle.geos_rows.specs.Weakest.{Weakens}
use Rattle.geos_rows.specs.Why.{AreApart}
use Rattle.geos_flow.specs.declared.apart.Apart.{Apart}
use Rattle.geos_flow.specs.declared.apart.Coming.{Coming}
use Rattle.geos_rows.proofs.Weakening.{all-weak}
use Rattle.geos_rows.proofs.weakest.find_weakest.Goals as goal

pub returns-in-Err-clause-apart : goal.returns-in-Err-clause-apart
returns-in-Err-clause-apart c =
    let body = c.args.body.now in
    subst (λ (o : Result (List (Option Coming)) Apart). IfErr o (AreApart body.image.now body.r)) c.in-Err.is c.in_ok-comings.ensures.err

pub unreachable-requires : goal.unreachable-requires
unreachable-requires c =
    let body = c.args.body.now in
    let image = body.image.now in
    let comings = c.in-Ok.comings in
    let known = c.args.known.now in
    let next = c.fill.new.known in
    let gone = subst (λ (o : Result (List (Option Coming)) Apart). IfOk o (HaveAllGone image body.r)) c.in-Ok.is c.in_ok-comings.ensures.ok in
    let weak = subst (λ (n : ℕ). Weakens n (start_of image.routines (body.r + 1)) comings known next) body.begins
    (subst (λ (n : ℕ). Weakens body.start n comings known next) body.ends c.fill.ensures) in
    false≢true (sym c.if-not-all_fit.true ∙ c.all_fit.ensures.weak (all-weak image body.r (omega (arith, body.ends, body.room))
    (omega (arith, body.begins, body.ends, body.some)) comings known next gone weak))
