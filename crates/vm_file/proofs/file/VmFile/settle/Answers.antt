use Rattle.vm_file.proofs.StateLaws.{rests_sound}
use Rattle.vm_file.proofs.file.VmFile.settle.Goals as goal

pub invariant_of-self : goal.invariant_of-self
invariant_of-self g c = (let d = g.D.Device in rests_sound d.medium _ c.settle.new.self c.self.invariant c.settle.ensures.rests)
