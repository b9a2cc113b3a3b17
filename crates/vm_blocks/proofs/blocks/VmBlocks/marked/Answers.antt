use Rattle.std.proofs.Common.{◌∙◌, ap, sym}
use Rattle.vm_blocks.specs.Blocks.{is_marked_in}
use Rattle.vm_blocks.proofs.Told.{mark-told}
use Rattle.vm_blocks.proofs.blocks.VmBlocks.marked.Goals as goal

pub returns-in-Some-clause-told : goal.returns-in-Some-clause-told
returns-in-Some-clause-told g c = λ s m tied is.
    let d = g.D.Device in mark-told d.medium c.args.self.now s tied m is c.args.handle ∙ ap is_marked_in (sym c.held.ensures.held ∙ c.in-Some.is)

pub returns-in-None-clause-told : goal.returns-in-None-clause-told
returns-in-None-clause-told g c = λ s m tied is.
    let d = g.D.Device in mark-told d.medium c.args.self.now s tied m is c.args.handle ∙ ap is_marked_in (sym c.held.ensures.held ∙ c.in-None.is)
