use Rattle.vm_blocks.proofs.MemoryKept.{blocks-may-go, marked-may-change, others-may-change, room-may-want}
use Rattle.vm_blocks.proofs.blocks.VmBlocks.memory_may_change.Goals as goal

pub returns-clause-others : goal.returns-clause-others
returns-clause-others g c = let d = g.D.Device in others-may-change d.medium c.args.self.now

pub returns-clause-discarded : goal.returns-clause-discarded
returns-clause-discarded g c = let d = g.D.Device in blocks-may-go d.medium c.args.self.now

pub returns-clause-marked : goal.returns-clause-marked
returns-clause-marked g c = let d = g.D.Device in marked-may-change d.medium c.args.self.now

pub returns-clause-room : goal.returns-clause-room
returns-clause-room g c = let d = g.D.Device in room-may-want d.medium c.args.self.now
