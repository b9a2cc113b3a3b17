use Rattle.geos_infer.proofs.Keyed.{all-hold-keyed}
use Rattle.geos_infer.proofs.inference.kept_rows_hold.Goals as goal

pub returns : goal.returns
returns c = all-hold-keyed
