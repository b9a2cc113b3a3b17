use Rattle.std.proofs.Common.{◌≡◌, false, refl, sym, subst}
use Rattle.std.specs.Prelude.{IfOk}
use Rattle.std.proofs.lemmas.Result.{IfOk-weaker}
use Rattle.geos_flow.specs.declared.cause.Cause.TheVariants.{SlotsDiffer}
use Rattle.geos_rows.specs.Why.{MeetAlike}
use Rattle.geos_rows.proofs.Held.{fit-alike}
use Rattle.loop_causes.specs.Causes.{Holds, tells_of_slots}
use Rattle.geos_infer.specs.Findings.{IsObstacle}
use Rattle.geos_infer.specs.declared.finding.Obstacle.{Obstacle}
use Rattle.geos_asm.specs.Assembling.{TellsOf}
use Rattle.geos_asm.proofs.cause.cause_of.Goals as goal

pub returns-in-SlotsDiffer-clause-holds : goal.returns-in-SlotsDiffer-clause-holds
returns-in-SlotsDiffer-clause-holds c =
    subst (IsObstacle c.args.image.now c.args.finding.now.routine) c.in-SlotsDiffer.is c.requires.is

pub returns-in-SlotsDiffer-clause-tells : goal.returns-in-SlotsDiffer-clause-tells
returns-in-SlotsDiffer-clause-tells c = subst (λ (o : Obstacle). TellsOf o (SlotsDiffer c.in-SlotsDiffer.apart)) (sym c.in-SlotsDiffer.is) refl

pub find_cause-requires-clause-rows : goal.find_cause-requires-clause-rows
find_cause-requires-clause-rows c =
    (subst (IsObstacle c.args.image.now c.args.finding.now.routine) c.in-NoSteps.is c.requires.is).fit

pub find_cause-requires-clause-reason : goal.find_cause-requires-clause-reason
find_cause-requires-clause-reason c =
    (subst (IsObstacle c.args.image.now c.args.finding.now.routine) c.in-NoSteps.is c.requires.is).reason

pub returns-in-NoSteps-clause-tells : goal.returns-in-NoSteps-clause-tells
returns-in-NoSteps-clause-tells c = subst (λ (o : Obstacle). IfOk c.find_cause.result (TellsOf o)) (sym c.in-NoSteps.is)
    c.find_cause.ensures.tells

pub returns-in-NoSteps-clause-slots : goal.returns-in-NoSteps-clause-slots
returns-in-NoSteps-clause-slots c =
    let image = c.args.image.now in
    let r = c.args.finding.now.routine in
    let is = subst (IsObstacle image r) c.in-NoSteps.is c.requires.is in
    let alike = fit-alike image r c.in-NoSteps.unpaid.known is.fit in
    IfOk-weaker c.find_cause.result (Holds image r) (λ cause. tells_of_slots cause ≡ false → MeetAlike image r)
    (λ cause holds e. alike) c.find_cause.ensures.holds
