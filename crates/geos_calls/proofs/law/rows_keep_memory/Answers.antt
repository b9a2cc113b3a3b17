use Rattle.geos_calls.proofs.Keeps.{rows_keep_memory}
use Rattle.geos_calls.proofs.law.rows_keep_memory.Goals as goal

pub returns : goal.returns
returns c = rows_keep_memory
