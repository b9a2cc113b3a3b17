use Rattle.std.proofs.Common.{◌-◌}
use Rattle.block_handles.proofs.Packs.{IsPackingDown}
use Rattle.block_handles.proofs.pack.pack_down.Given as goal

abbrev pub invariant-loop-slot : goal.invariant-loop-slot
invariant-loop-slot l = IsPackingDown l.initial.arena l.arena l.from l.until l.at l.scan

abbrev pub decreases-loop-slot : goal.decreases-loop-slot
decreases-loop-slot l = l.until - l.scan
