use Rattle.std.proofs.Common.{arith}
use Rattle.geos_infer.proofs.Copies.{taken-more, all-taken}
use Rattle.geos_infer.proofs.inference.routines_of.Goals as goal

pub loop-r-preserved : goal.loop-r-preserved
loop-r-preserved c = taken-more c.args.image.now.routines c.loop-r.routines.items c.push.new.self.items c.loop-r.r
    c.routine.result.now c.loop-r.invariant c.routine.ensures c.in_ok-push.ensures.items

pub returns : goal.returns
returns c = all-taken c.args.image.now c.loop-r.routines.items c.loop-r.r c.loop-r.invariant (omega (arith, c.count-r-end.ensures.count))
