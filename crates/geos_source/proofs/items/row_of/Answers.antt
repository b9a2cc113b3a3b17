use Rattle.std.proofs.Common.{arith, ap, length}
use Rattle.geos_source.proofs.items.row_of.Goals as goal

pub loop-word-smaller-in-Ok : goal.loop-word-smaller-in-Ok
loop-word-smaller-in-Ok c = omega (arith, ap length c.in-Some.ensures.some)

pub loop-word-smaller : goal.loop-word-smaller
loop-word-smaller c = omega (arith, ap length c.in-Some.ensures.some)
