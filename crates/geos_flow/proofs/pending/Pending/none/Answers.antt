use Rattle.std.proofs.Common.{false, replicate}
use Rattle.geos_flow.proofs.Blocks.{none-in}
use Rattle.geos_flow.proofs.pending.Pending.none.Goals as goal

pub invariant_of-result : goal.invariant_of-result
invariant_of-result c = none-in (replicate 64 false) c.no_marks.result c.no_marks.ensures
