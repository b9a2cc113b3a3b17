use Rattle.std.proofs.Common.{arith}
use Rattle.geos_asm.proofs.Unsetting.{none-of-more, none-of-all}
use Rattle.geos_asm.proofs.unset.first_unset_loop.Goals as goal

pub loop-r-preserved : goal.loop-r-preserved
loop-r-preserved c = none-of-more c.args.image.now c.loop-r.r c.loop-r.invariant c.in_default.ensures.none

pub returns-clause-none : goal.returns-clause-none
returns-clause-none c =
    none-of-all c.args.image.now c.loop-r.r (omega (arith, c.loop-r-test.false, c.count-r-end.ensures.count)) c.loop-r.invariant
