use Rattle.geos_verify.proofs.AcceptedToo.{accepted_too}
use Rattle.geos_verify.proofs.keyed.accepted_images_are_accepted_in_version_2.Goals as goal

pub returns : goal.returns
returns c = accepted_too
