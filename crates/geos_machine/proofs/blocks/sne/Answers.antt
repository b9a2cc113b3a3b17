use Rattle.std.proofs.Common.{refl, ◌∙◌}
use Rattle.geos_terms.specs.Names.{mem}
use Rattle.geos_machine.proofs.Through.{compared}
use Rattle.geos_machine.proofs.Safe.{compared-held}
use Rattle.geos_machine.proofs.blocks.sne.Goals as goal

pub returns : goal.returns
returns g c =
    let i = c.args.i.now in
    let honest : Type 0 = g.D.Device.medium.honest c.args.kernel.now.device in
    compared honest i c.args.kernel.now.core c.args.m.now (mem 0) c.to_if.result
    (λ beside pc safe. compared-held i _ (rw c.requires.instr.is refl) safe) (λ image choice beside pc. rw c.requires.instr.is refl)
    (c.to_if.ensures ∙ rw (c.are_same.ensures, c.requires.instr.a_is) refl)
