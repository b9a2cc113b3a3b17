use Rattle.tkv_checks.proofs.Leads.{jumped_on}
use Rattle.tkv_checks.proofs.places.settled.Goals as goal

pub loop-preserved : goal.loop-preserved
loop-preserved c = jumped_on c.args.image.now c.args.pc c.loop.here c.in-Some.to c.in-Some.ensures c.loop.invariant
