use Rattle.geos_flow.proofs.Blocks.{all-marked, all-in}
use Rattle.geos_flow.proofs.pending.Pending.all.Goals as goal

pub invariant_of-result : goal.invariant_of-result
invariant_of-result c = all-in

pub returns : goal.returns
returns c = all-marked
