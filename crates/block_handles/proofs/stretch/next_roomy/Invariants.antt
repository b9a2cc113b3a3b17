use Rattle.std.proofs.Common.{◌-◌}
use Rattle.block_handles.proofs.Passes.{HasPassed}
use Rattle.block_handles.proofs.stretch.next_roomy.Given as goal

abbrev pub invariant-loop-slot : goal.invariant-loop-slot
invariant-loop-slot l = HasPassed l.arena l.but l.from l.scan l.taken

abbrev pub decreases-loop-slot : goal.decreases-loop-slot
decreases-loop-slot l = l.len - l.scan
