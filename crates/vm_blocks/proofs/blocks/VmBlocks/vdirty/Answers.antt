use Rattle.vm_blocks.proofs.LockRows.{dirty-row}
use Rattle.vm_blocks.proofs.Marking.{stays-changed}
use Rattle.vm_blocks.proofs.blocks.VmBlocks.vdirty.Goals as goal

pub vdirty_changed-requires : goal.vdirty_changed-requires
vdirty_changed-requires g c = let d = g.D.Device in stays-changed d.medium c.args.self.now c.args.blocks.now
    c.args.handle c.requires.tied c.requires.there

pub returns-clause-row : goal.returns-clause-row
returns-clause-row g c =
    let d = g.D.Device in
    dirty-row d.medium c.args.self.now c.args.blocks.now c.args.handle c.requires.tied c.vdirty_changed.new.self
    c.requires.there c.vdirty_changed.ensures.marks
