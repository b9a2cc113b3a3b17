use Rattle.geos_infer.proofs.Final.{none-accepted-for}
use Rattle.geos_infer.proofs.refusals.none_is_accepted_for.Goals as goal

pub returns : goal.returns
returns c = none-accepted-for
