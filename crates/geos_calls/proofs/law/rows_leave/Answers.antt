use Rattle.geos_calls.proofs.Leaves.{rows_leave}
use Rattle.geos_calls.proofs.law.rows_leave.Goals as goal

pub returns : goal.returns
returns c = rows_leave
