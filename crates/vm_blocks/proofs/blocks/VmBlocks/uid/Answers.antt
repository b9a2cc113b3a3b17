use Rattle.std.specs.Prelude.{Option, option_map}
use Rattle.std.proofs.Common.{◌∙◌, sym, subst}
use Rattle.geos_calls.specs.VmCalls.{vuid}
use Rattle.vm_blocks.specs.declared.entries.Held.{Held}
use Rattle.vm_blocks.specs.Blocks.{uid_of}
use Rattle.vm_blocks.specs.DoesRow.{DoesRow}
use Rattle.vm_blocks.specs.Refused.{of_uid}
use Rattle.vm_blocks.proofs.Told.{uid-row}
use Rattle.vm_blocks.proofs.blocks.VmBlocks.uid.Goals as goal

pub returns-in-Some-clause-row : goal.returns-in-Some-clause-row
returns-in-Some-clause-row g c = λ s tied.
    let d = g.D.Device in
    let now = c.args.self.now in
    let h = c.args.handle in
    subst (λ (o : Option Held). DoesRow d.medium (vuid h) (of_uid (option_map uid_of o)) now s now s)
    (sym c.held.ensures.held ∙ c.in-Some.is) (uid-row d.medium now s tied h)

pub returns-in-None-clause-row : goal.returns-in-None-clause-row
returns-in-None-clause-row g c = λ s tied.
    let d = g.D.Device in
    let now = c.args.self.now in
    let h = c.args.handle in
    subst (λ (o : Option Held). DoesRow d.medium (vuid h) (of_uid (option_map uid_of o)) now s now s)
    (sym c.held.ensures.held ∙ c.in-None.is) (uid-row d.medium now s tied h)
