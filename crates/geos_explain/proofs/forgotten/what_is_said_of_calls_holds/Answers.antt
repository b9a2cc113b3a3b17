use Rattle.geos_explain.proofs.Forgetting.{said_of_calls}
use Rattle.geos_explain.proofs.forgotten.what_is_said_of_calls_holds.Goals as goal

pub returns : goal.returns
returns c = said_of_calls
