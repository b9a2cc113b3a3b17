use Rattle.tkv_theorem.proofs.Chained.{compiled_runs, honest_drifts}
use Rattle.tkv_theorem.proofs.compiled_runs_as_written.Goals as goal

pub returns : goal.returns
returns g c = record { written = compiled_runs g.D.Device.medium; honest = honest_drifts g.D.Device.medium }
