use Rattle.block_handles.proofs.Filled.{filled-more, no-slots}
use Rattle.block_handles.proofs.slots.SlotSet.new.Goals as goal

pub loop-preserved : goal.loop-preserved
loop-preserved c = filled-more c.loop.words.items c.push.new.self.items c.loop.counter 0 c.loop.invariant c.in_ok-push.ensures.items

pub returns : goal.returns
returns c = no-slots c.loop.words.items c.loop.counter 32 c.loop.invariant c.loop.auto.counter-end c.loop-test.false
