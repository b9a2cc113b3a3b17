use Rattle.file_checks.proofs.Sound.{sound}
use Rattle.vm_file.specs.State.{file_of}
use Rattle.file_checks.proofs.whole.check.Goals as goal

pub returns-in-Ok-clause-sound : goal.returns-in-Ok-clause-sound
returns-in-Ok-clause-sound g c = λ h. sound (g.D.Device.medium.image c.args.device) (file_of g.D.Device.medium.image c.in-Ok._file) (c.in-Ok.ensures.exact h)
