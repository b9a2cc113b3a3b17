use Rattle.tkv_names.proofs.Passing.{Passing}
use Rattle.tkv_names.proofs.check.Check.part_end.Given as goal

abbrev pub invariant-loop-index : goal.invariant-loop-index
invariant-loop-index l = Passing l.fn.self.text.now l.fn.self.items.now l.fn.from l.index l.depth
