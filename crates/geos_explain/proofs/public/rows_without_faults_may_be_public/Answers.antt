use Rattle.geos_explain.proofs.Outside.{no_faults}
use Rattle.geos_explain.proofs.public.rows_without_faults_may_be_public.Goals as goal

pub returns : goal.returns
returns c = no_faults
