use Rattle.std.proofs.Common.{◌≡◌, ◌<◌, ℕ, length, subst, arith}
use Rattle.std.specs.Prelude.{Option, IfNone}
use Rattle.geos_verify.proofs.Places.{if_some}
use Rattle.geos_potentials.specs.Constants.{AreLeastFrom}
use Rattle.geos_potentials.specs.Count.{AreCounted}
use Rattle.geos_potentials.specs.Numbers.{numbers_of}
use Rattle.geos_potentials.specs.Reasons.{IsReason}
use Rattle.geos_counters.specs.Steps.{NoStepsHoldIn}
use Rattle.geos_potentials.specs.declared.reason.Unfound.{Unfound}
use Rattle.geos_potentials.proofs.Staying.{not-some}
use Rattle.geos_rows.specs.Flow.{HaveFlowed}
use Rattle.geos_rows.specs.Why.{AreApart}
use Rattle.geos_flow.specs.declared.apart.Apart.{Apart}
use Rattle.geos_infer.proofs.Stopping.{no-steps, no-rows}
use Rattle.geos_infer.proofs.inference.solve.Goals as goal

pub returns-in-Some-clause-why : goal.returns-in-Some-clause-why
returns-in-Some-clause-why c =
    let image = c.args.image.now in
    let rows = c.in_ok-known.ensures in
    let known = c.in_ok-known.field-0.known in
    let left = c.in_ok-left.left in
    let unfound = c.in-Some.unfound in
    let few : unfound.routine < c.in_ok-known.field-0.routines =
    if_some (λ (u : Unfound). u.routine < c.in_ok-known.field-0.routines) left unfound c.in-Some.is c.in_ok-left.ensures.within in
    no-steps image c.len-legal.ensures.legal unfound.routine (record { known = known; reason = unfound.reason })
    (omega (arith, few, rows.few)) (record {
      fit = rows.fit unfound.routine few;
      reason = if_some (λ (u : Unfound). IsReason image u.routine known u.reason) left unfound c.in-Some.is c.in_ok-left.ensures.reason;
      none = if_some (λ (u : Unfound). NoStepsHoldIn image u.routine) left unfound c.in-Some.is c.in_ok-left.ensures.none;
    })

pub returns-in-Some-apart-clause-why : goal.returns-in-Some-apart-clause-why
returns-in-Some-apart-clause-why c =
    let image = c.args.image.now in
    let rows = c.in_ok-known.ensures in
    let apart = c.in-Some-apart.apart in
    let within = if_some (λ (a : Apart). c.in_ok-known.field-0.routines < length image.routines) c.in_ok-known.field-0.apart apart c.in-Some-apart.is rows.within in
    no-rows image c.len-legal.ensures.legal c.in_ok-known.field-0.routines apart within
    (if_some (AreApart image c.in_ok-known.field-0.routines) c.in_ok-known.field-0.apart apart c.in-Some-apart.is rows.apart) (rows.none within)

pub returns-in-None-clause-flowed : goal.returns-in-None-clause-flowed
returns-in-None-clause-flowed c =
    let image = c.args.image.now in
    let rows = c.in_ok-known.ensures in
    let all = subst (λ (o : Option Apart). IfNone o (c.in_ok-known.field-0.routines ≡ length image.routines)) c.in-None.is rows.all in
    subst (HaveFlowed image c.in_ok-known.field-0.known) all (rows.found all)

pub returns-in-None-clause-counted : goal.returns-in-None-clause-counted
returns-in-None-clause-counted c =
    let image = c.args.image.now in
    let all = subst (λ (o : Option Apart). IfNone o (c.in_ok-known.field-0.routines ≡ length image.routines)) c.in-None.is c.in_ok-known.ensures.all in
    subst (λ (n : ℕ). AreCounted image 0 n (numbers_of c.find_potentials.new.potentials)) all c.in_ok-left.ensures.counted

pub returns-in-None-clause-least : goal.returns-in-None-clause-least
returns-in-None-clause-least c =
    let image = c.args.image.now in
    let all = subst (λ (o : Option Apart). IfNone o (c.in_ok-known.field-0.routines ≡ length image.routines)) c.in-None.is c.in_ok-known.ensures.all in
    subst (λ (n : ℕ). AreLeastFrom image 0 n c.in_ok-known.field-0.known (numbers_of c.find_potentials.new.potentials)) all
    (c.in_ok-left.ensures.least (not-some c.in_ok-left.left c.in_default.not-Some))
