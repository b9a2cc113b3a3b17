use Rattle.tkv_names.proofs.Passing.{Escaping}
use Rattle.tkv_names.proofs.check.Check.block_end.Given as goal

abbrev pub invariant-loop-index : goal.invariant-loop-index
invariant-loop-index l = Escaping l.fn.self.placed.now l.fn.from l.fn.level l.fn.to l.index l.depth
