use Rattle.block_handles.proofs.Filled.{filled-more, filled}
use Rattle.block_handles.specs.Rows.{free_row}
use Rattle.block_handles.proofs.table.free_rows.Goals as goal

pub loop-preserved : goal.loop-preserved
loop-preserved c = filled-more c.loop.rows.items c.push.new.self.items c.loop.counter free_row c.loop.invariant c.in_ok-push.ensures.items

pub returns : goal.returns
returns c = filled c.loop.rows.items c.loop.counter c.args.n free_row c.loop.invariant c.loop.auto.counter-end c.loop-test.false
