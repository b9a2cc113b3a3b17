use Rattle.std.proofs.Common.{sym, subst}
use Rattle.std.specs.Prelude.{IfOk, IfSome}
use Rattle.geos_potentials.specs.declared.units.Lack.{Lack}
use Rattle.geos_diagnosis.specs.Tells.{TellsOfLack}
use Rattle.geos_diagnosis.proofs.diagnosis.cause_of_lack.Goals as goal

pub returns-in-SetWithin-clause-tells : goal.returns-in-SetWithin-clause-tells
returns-in-SetWithin-clause-tells c =
    subst (λ (lack : Lack). IfSome c.cause_of_set.result (TellsOfLack c.args.search.now.splitting.order lack)) (sym c.in-SetWithin.is)
    c.cause_of_set.ensures.tells

pub returns-in-Passes-clause-tells : goal.returns-in-Passes-clause-tells
returns-in-Passes-clause-tells c =
    subst (λ (lack : Lack). IfOk c.cause_of_passing.result (λ found. IfSome found (TellsOfLack c.args.search.now.splitting.order lack)))
    (sym c.in-Passes.is) c.cause_of_passing.ensures.tells

pub returns-in-InTurn-clause-tells : goal.returns-in-InTurn-clause-tells
returns-in-InTurn-clause-tells c =
    subst (λ (lack : Lack). IfSome c.cause_in_turn.result (TellsOfLack c.args.search.now.splitting.order lack)) (sym c.in-InTurn.is)
    c.cause_in_turn.ensures.tells

pub returns-in-Looks-clause-tells : goal.returns-in-Looks-clause-tells
returns-in-Looks-clause-tells c =
    subst (λ (lack : Lack). IfSome c.cause_of_looks.result (TellsOfLack c.args.search.now.splitting.order lack)) (sym c.in-Looks.is)
    c.cause_of_looks.ensures.tells
