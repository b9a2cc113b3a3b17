use Rattle.vm_file.proofs.Moments.{rose}
use Rattle.vm_file.proofs.opened.read_selector.Goals as goal

pub returns-in-Err-clause-cause : goal.returns-in-Err-clause-cause
returns-in-Err-clause-cause g c = rose _ _ c.in-Err.ensures.cause.err
