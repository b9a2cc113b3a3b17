use Rattle.std.proofs.Common.{None}
use Rattle.block_handles.proofs.Filled.{filled-more, filled}
use Rattle.block_handles.proofs.arena.empty_index.Goals as goal

pub loop-preserved : goal.loop-preserved
loop-preserved c = filled-more c.loop.index.items c.push.new.self.items c.loop.counter None c.loop.invariant c.in_ok-push.ensures.items

pub returns : goal.returns
returns c = filled c.loop.index.items c.loop.counter c.args.n None c.loop.invariant c.loop.auto.counter-end c.loop-test.false
