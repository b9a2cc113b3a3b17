use Rattle.tkv_meaning.proofs.Runs.{routines_do}
use Rattle.tkv_meaning.proofs.routines_do_what_is_written.Goals as goal

pub returns : goal.returns
returns c = routines_do
