use Rattle.std.proofs.Common.{arith, below_more}
use Rattle.geos_potentials.proofs.idle.are_noted_from.Goals as goal

pub loop-counter-init : goal.loop-counter-init
loop-counter-init c = record { along = λ k lt. absurd (omega arith); branching = λ k lt. absurd (omega arith); behind = λ k lt. absurd (omega arith) }

pub loop-counter-preserved : goal.loop-counter-preserved
loop-counter-preserved c = record {
  along = below_more _ _ c.loop-counter.invariant.along (c.goes_on.ensures c.if-not-goes_on.false);
  branching = below_more _ _ c.loop-counter.invariant.branching (c.goes_on-in-loop-counter.ensures c.if-not-goes_on-2.false);
  behind = below_more _ _ c.loop-counter.invariant.behind (c.is_noted_behind.ensures c.if-not-is_noted_behind.false);
}

pub returns : goal.returns
returns c = λ is. record {
  along = λ k few. c.loop-counter.invariant.along k (omega (arith, few, c.loop-counter-test.false));
  branching = λ k few. c.loop-counter.invariant.branching k (omega (arith, few, c.loop-counter-test.false));
  behind = λ k few. c.loop-counter.invariant.behind k (omega (arith, few, c.loop-counter-test.false));
}
