use Rattle.std.proofs.Common.{refl}
use Rattle.geos_machine.proofs.Through.{measured}
use Rattle.geos_machine.proofs.Safe.{measured-safe}
use Rattle.geos_machine.proofs.access.plen.Goals as goal

pub returns : goal.returns
returns g c =
    let i = c.args.i.now in
    let honest : Type 0 = g.D.Device.medium.honest c.args.kernel.now.device in
    measured honest i c.args.kernel.now.core c.args.m.now _ (record { at = 0; len = 0 })
    (λ beside pc safe. measured-safe i _ (rw c.requires.instr.is refl) safe) (λ image choice beside pc. rw c.requires.instr.is refl)
    (rw (c.index_a-a.ensures, c.index_b-b.ensures) refl)
