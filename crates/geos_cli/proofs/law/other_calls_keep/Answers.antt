use Rattle.geos_cli.proofs.RunsKeep.{other_calls_keep}
use Rattle.geos_cli.proofs.law.other_calls_keep.Goals as goal

pub returns : goal.returns
returns c = other_calls_keep
