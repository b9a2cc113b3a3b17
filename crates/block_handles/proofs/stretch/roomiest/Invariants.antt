use Rattle.std.proofs.Common.{◌-◌}
use Rattle.block_handles.proofs.Walks.{HasWalked}
use Rattle.block_handles.proofs.stretch.roomiest.Given as goal

abbrev pub invariant-loop-slot : goal.invariant-loop-slot
invariant-loop-slot l = HasWalked l.arena l.but l.from l.scan l.taken l.best

abbrev pub decreases-loop-slot : goal.decreases-loop-slot
decreases-loop-slot l = l.len - l.scan
