-- Causes that tell of what stops the search for rows and potentials.
use Rattle.std.proofs.Common.{◌≡◌, true, Option, Some, None, inr}
use Rattle.std.specs.Prelude.{Result, Ok, Err, IfOk, IfSome}
use Rattle.loop_causes.specs.Tells.{tells_of_setting}
use Rattle.geos_diagnosis.specs.Tells.{TellsOfPassing}
use Rattle.geos_flow.specs.declared.cause.Cause.{Cause}

-- one that tells of what a counter is set to tells of a number that passes
pub setting-passes : {E : Type 0} (answer : Result (Option Cause) E)
    → IfOk answer (λ found. IfSome found (λ told. tells_of_setting told ≡ true)) → IfOk answer (λ found. IfSome found TellsOfPassing)
setting-passes (Ok None) tells = tt
setting-passes (Ok (Some told)) tells = inr tells
setting-passes (Err error) tells = tt
