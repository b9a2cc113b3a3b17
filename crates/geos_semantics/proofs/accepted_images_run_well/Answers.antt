use Rattle.geos_semantics.proofs.Ends.{accepted_images_run_well}
use Rattle.geos_semantics.proofs.accepted_images_run_well.Goals as goal

pub returns : goal.returns
returns c = accepted_images_run_well
