use Rattle.tkv_names.specs.Seen.{Reaches}
use Rattle.tkv_names.proofs.check.Check.instruction_from.Given as goal

abbrev pub invariant-loop : goal.invariant-loop
invariant-loop l = Reaches l.fn.self.placed.now l.fn.first.index l.fn.first.level l.spot.index l.spot.level
