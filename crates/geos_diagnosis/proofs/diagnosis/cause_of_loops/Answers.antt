use Rattle.std.proofs.Common.{◌≡◌, true, inr, refl}
use Rattle.std.proofs.lemmas.Result.{IfOk-weaker}
use Rattle.geos_potentials.specs.declared.reason.Reason.TheVariants.{InTheWay}
use Rattle.geos_rows.proofs.Held.{fit-alike}
use Rattle.geos_diagnosis.specs.Tells.{TellsOfReason}
use Rattle.loop_causes.specs.Tells.{tells_of_ways}
use Rattle.geos_diagnosis.proofs.diagnosis.cause_of_loops.Goals as goal

pub cause_ahead-requires-clause-alike : goal.cause_ahead-requires-clause-alike
cause_ahead-requires-clause-alike c =
    let body = c.args.body.now in
    fit-alike body.image.now body.r c.args.known.now c.requires.rows

pub returns-then-branch-clause-tells : goal.returns-then-branch-clause-tells
returns-then-branch-clause-tells c = inr refl

pub returns-in-Some-clause-tells : goal.returns-in-Some-clause-tells
returns-in-Some-clause-tells c = rw c.in-Some.is at c.in_ok-cause.ensures.tells

pub returns-in-Some-find_back-clause-tells : goal.returns-in-Some-find_back-clause-tells
returns-in-Some-find_back-clause-tells c = IfOk-weaker c.cause_of_back.result (λ told. tells_of_ways told ≡ true)
    (TellsOfReason (InTheWay c.args.halted.now)) (λ told ways. inr ways) c.cause_of_back.ensures.tells

pub returns-in-None-clause-tells : goal.returns-in-None-clause-tells
returns-in-None-clause-tells c = IfOk-weaker c.cause_ahead.result (λ told. tells_of_ways told ≡ true)
    (TellsOfReason (InTheWay c.args.halted.now)) (λ told ways. inr ways) c.cause_ahead.ensures.tells
