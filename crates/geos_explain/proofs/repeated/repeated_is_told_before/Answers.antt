use Rattle.geos_explain.proofs.Repeating.{repeated_told}
use Rattle.geos_explain.proofs.repeated.repeated_is_told_before.Goals as goal

pub returns : goal.returns
returns c = repeated_told
