use Rattle.tkv_theorem.proofs.Named.{covered_runs}
use Rattle.tkv_theorem.proofs.covered_runs_as_named.Goals as goal

pub returns : goal.returns
returns g c = covered_runs g.D.Device.medium
