use Rattle.std.proofs.Common.{sym, subst}
use Rattle.std.specs.Prelude.{IfOk, IfSome}
use Rattle.geos_potentials.specs.Halts.{IsInTheWay}
use Rattle.geos_potentials.specs.declared.search.Halt.{Halt}
use Rattle.geos_diagnosis.specs.Tells.{TellsOfHalt}
use Rattle.geos_diagnosis.proofs.diagnosis.cause_of_halt.Goals as goal

pub first_cause-requires-clause-never : goal.first_cause-requires-clause-never
first_cause-requires-clause-never c =
    let body = c.args.body.now in
    (subst (IsInTheWay body.image.now body.r) c.in-Stuck.is c.requires.way).0

pub returns-in-Stuck-clause-tells : goal.returns-in-Stuck-clause-tells
returns-in-Stuck-clause-tells c =
    subst (λ (halt : Halt). IfSome c.first_cause.result (TellsOfHalt c.args.search.now.splitting.order halt)) (sym c.in-Stuck.is)
    c.first_cause.ensures.tells

pub returns-in-Unpaid-clause-tells : goal.returns-in-Unpaid-clause-tells
returns-in-Unpaid-clause-tells c =
    subst (λ (halt : Halt). IfOk c.cause_of_lack.result (λ found. IfSome found (TellsOfHalt c.args.search.now.splitting.order halt)))
    (sym c.in-Unpaid.is) c.cause_of_lack.ensures.tells

pub returns-in-Passes-clause-tells : goal.returns-in-Passes-clause-tells
returns-in-Passes-clause-tells c =
    subst (λ (halt : Halt). IfOk c.cause_of_passing.result (λ found. IfSome found (TellsOfHalt c.args.search.now.splitting.order halt)))
    (sym c.in-Passes.is) c.cause_of_passing.ensures.tells
