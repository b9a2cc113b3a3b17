use Rattle.std.proofs.Common.{arith}
use Rattle.geos_asm.proofs.Unsetting.{none-of-counter}
use Rattle.geos_asm.proofs.unset.unset_loop_in.Goals as goal

pub loop-counter-preserved : goal.loop-counter-preserved
loop-counter-preserved c =
    none-of-counter c.args.image.now c.args.r c.loop-counter.counter c.loop-counter.invariant c.in_default.ensures.none

pub returns-clause-none : goal.returns-clause-none
returns-clause-none c = λ k low. c.loop-counter.invariant k (omega (arith, low, c.loop-counter-test.false))
