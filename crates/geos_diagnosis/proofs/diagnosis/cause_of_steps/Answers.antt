use Rattle.std.proofs.Common.{refl, sym, subst}
use Rattle.std.specs.Prelude.{IfOk}
use Rattle.geos_potentials.specs.Reasons.{IsReason}
use Rattle.geos_potentials.specs.declared.reason.Reason.{Reason}
use Rattle.geos_rows.proofs.Held.{fit-alike}
use Rattle.geos_diagnosis.specs.Tells.{TellsOfReason}
use Rattle.geos_flow.specs.declared.cause.Cause.TheVariants.{NoLoop}
use Rattle.geos_diagnosis.proofs.diagnosis.cause_of_steps.Goals as goal

pub cause_of_many-requires-clause-loops : goal.cause_of_many-requires-clause-loops
cause_of_many-requires-clause-loops c =
    let body = c.args.body.now in
    (subst (IsReason body.image.now body.r c.args.known.now) c.in-TooMany.is c.requires.reason).0

pub cause_of_many-requires-clause-alike : goal.cause_of_many-requires-clause-alike
cause_of_many-requires-clause-alike c =
    let body = c.args.body.now in
    fit-alike body.image.now body.r c.args.known.now c.requires.rows

pub returns-in-TooMany-clause-tells : goal.returns-in-TooMany-clause-tells
returns-in-TooMany-clause-tells c = subst (λ (reason : Reason). IfOk c.cause_of_many.result (TellsOfReason reason)) (sym c.in-TooMany.is)
    c.cause_of_many.ensures.tells

pub returns-in-NoLoop-clause-holds : goal.returns-in-NoLoop-clause-holds
returns-in-NoLoop-clause-holds c =
    let body = c.args.body.now in
    subst (IsReason body.image.now body.r c.args.known.now) c.in-NoLoop.is c.requires.reason

pub returns-in-NoLoop-clause-tells : goal.returns-in-NoLoop-clause-tells
returns-in-NoLoop-clause-tells c = subst (λ (reason : Reason). TellsOfReason reason (NoLoop c.in-NoLoop.back)) (sym c.in-NoLoop.is) refl

pub cause_of_loops-requires-clause-way : goal.cause_of_loops-requires-clause-way
cause_of_loops-requires-clause-way c =
    let body = c.args.body.now in
    subst (IsReason body.image.now body.r c.args.known.now) c.in-InTheWay.is c.requires.reason

pub returns-in-InTheWay-clause-tells : goal.returns-in-InTheWay-clause-tells
returns-in-InTheWay-clause-tells c = subst (λ (reason : Reason). IfOk c.cause_of_loops.result (TellsOfReason reason)) (sym c.in-InTheWay.is)
    c.cause_of_loops.ensures.tells
