use Rattle.std.proofs.Common.{[], refl}
use Rattle.geos_potentials.proofs.Idling.{comes-more}
use Rattle.geos_potentials.proofs.stuck.comes_back.Goals as goal

pub loop-init : goal.loop-init
loop-init c = λ idle. record { branches = []; way = refl }

pub loop-preserved : goal.loop-preserved
loop-preserved c = λ idle.
    let body = c.args.body.now in
    comes-more body.image.now body.r c.args.from c.loop.at c.in-Some.to (c.loop.invariant idle) (c.in-Some.ensures.leads idle)
