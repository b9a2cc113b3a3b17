use Rattle.std.proofs.Common.{refl}
use Rattle.geos_machine.proofs.Through.{duplicated}
use Rattle.geos_machine.proofs.access.movp.Goals as goal

pub returns : goal.returns
returns g c = duplicated (g.D.Device.medium.honest c.args.kernel.now.device) c.args.i.now c.args.kernel.now.core
    c.args.m.now _ (record { at = 0; len = 0 }) (λ image choice beside pc. rw c.requires.instr.is refl)
    (rw (c.index_a-a.ensures, c.index_b-b.ensures) refl)
