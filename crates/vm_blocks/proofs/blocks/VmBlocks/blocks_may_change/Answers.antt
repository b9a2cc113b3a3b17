use Rattle.vm_blocks.proofs.Lasting.{marked-changes, others-change}
use Rattle.vm_blocks.proofs.blocks.VmBlocks.blocks_may_change.Goals as goal

pub returns-clause-others : goal.returns-clause-others
returns-clause-others g c = λ s t tied laid same. let d = g.D.Device in others-change d.medium c.args.self.now s t tied laid same

pub returns-clause-marked : goal.returns-clause-marked
returns-clause-marked g c = λ s t h tied laid same own. let d = g.D.Device in marked-changes d.medium c.args.self.now s t tied laid h same own
