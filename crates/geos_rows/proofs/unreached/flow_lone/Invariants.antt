use Rattle.geos_rows.specs.Unreached.{StaysKnown}
use Rattle.geos_rows.proofs.unreached.flow_lone.Given as goal

abbrev pub invariant-loop : goal.invariant-loop
invariant-loop l = StaysKnown l.fn.others l.others
