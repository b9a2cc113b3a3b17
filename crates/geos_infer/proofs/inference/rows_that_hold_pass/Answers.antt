use Rattle.geos_infer.proofs.Holding.{rules-pass}
use Rattle.geos_infer.proofs.inference.rows_that_hold_pass.Goals as goal

pub returns : goal.returns
returns c = rules-pass
