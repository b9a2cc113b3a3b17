use Rattle.geos_rows.specs.Unreached.{StaysKnown}
use Rattle.geos_rows.proofs.unreached.pass_lone.Given as goal

abbrev pub invariant-loop-branch : goal.invariant-loop-branch
invariant-loop-branch l = StaysKnown l.fn.others l.others
