use Rattle.geos_flow.specs.Pending.{NoneIn}
use Rattle.geos_flow.proofs.pending.is_any.Given as goal

abbrev pub invariant-loop-pc : goal.invariant-loop-pc
invariant-loop-pc l = NoneIn l.marks l.first l.pc
