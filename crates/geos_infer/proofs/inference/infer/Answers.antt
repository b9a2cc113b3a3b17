use Rattle.std.proofs.Common.{◌≡◌, ◌<◌, ◌∙◌, ℕ, length, sym, subst}
use Rattle.geos_counters.specs.Steps.{NoStepsHoldIn}
use Rattle.geos_rows.specs.Why.{MeetAlike}
use Rattle.geos_infer.specs.Findings.{IsWhyNone}
use Rattle.geos_infer.specs.Theorem.{NothingHoldsIn, HasReason}
use Rattle.geos_infer.proofs.Stopping.{steps-none, has-reason}
use Rattle.geos_infer.proofs.inference.infer.Goals as goal

pub returns-in-Err-Stopped-clause-none : goal.returns-in-Err-Stopped-clause-none
returns-in-Err-Stopped-clause-none c = λ r e.
    let S = subst (IsWhyNone c.args.skeleton.now) c.in-Err-Stopped.field-0-is c.in-Err-Stopped.ensures.why in
    S.none

pub returns-in-Err-Stopped-clause-stuck : goal.returns-in-Err-Stopped-clause-stuck
returns-in-Err-Stopped-clause-stuck c = λ r e.
    let S = subst (IsWhyNone c.args.skeleton.now) c.in-Err-Stopped.field-0-is c.in-Err-Stopped.ensures.why in
    let same : c.into_routine.result ≡ r = cc in
    subst (NothingHoldsIn c.args.skeleton.now) (sym c.into_routine.ensures ∙ same) S.stuck

pub returns-in-Err-Stopped-clause-steps : goal.returns-in-Err-Stopped-clause-steps
returns-in-Err-Stopped-clause-steps c = λ r e meet.
    let image = c.args.skeleton.now in
    let S = subst (IsWhyNone image) c.in-Err-Stopped.field-0-is c.in-Err-Stopped.ensures.why in
    let named : c.into_routine.result ≡ r = cc in
    let same = sym c.into_routine.ensures ∙ named in
    subst (NoStepsHoldIn image) same (steps-none image c.in-Err-Stopped.finding S (subst (MeetAlike image) (sym same) meet))

pub returns-in-Err-Stopped-clause-reason : goal.returns-in-Err-Stopped-clause-reason
returns-in-Err-Stopped-clause-reason c = λ r e meet.
    let image = c.args.skeleton.now in
    let S = subst (IsWhyNone image) c.in-Err-Stopped.field-0-is c.in-Err-Stopped.ensures.why in
    let named : c.into_routine.result ≡ r = cc in
    let same = sym c.into_routine.ensures ∙ named in
    subst (HasReason image) same (has-reason image c.in-Err-Stopped.finding S (subst (MeetAlike image) (sym same) meet))

pub returns-in-Err-Stopped-clause-within : goal.returns-in-Err-Stopped-clause-within
returns-in-Err-Stopped-clause-within c =
    let image = c.args.skeleton.now in
    let S = subst (IsWhyNone image) c.in-Err-Stopped.field-0-is c.in-Err-Stopped.ensures.why in
    subst (λ (n : ℕ). n < length image.routines) (sym c.into_routine.ensures) S.within
