use Rattle.geos_infer.proofs.Past.{none-accepted-past}
use Rattle.geos_infer.proofs.refusals.none_is_accepted_past.Goals as goal

pub returns : goal.returns
returns c = none-accepted-past
