use Rattle.std.proofs.Common.{ℕ, List, Bool, [], ◌∷◌, refl, subst, arith}
use Rattle.geos_counters.specs.Idle.{IsUnpaidWay}
use Rattle.geos_potentials.proofs.unpaid.leads_on.Goals as goal

pub loop-init : goal.loop-init
loop-init c = (let body = c.args.body.now in let room = body.room in let short = body.short in omega arith, ([], refl))

pub returns-then-at-from : goal.returns-then-at-from
returns-then-at-from c = λ is. subst (λ (n : ℕ). (branches : List Bool)
    × IsUnpaidWay c.args.body.now.image.now c.args.body.now.r n branches c.args.to) c.if-at-from.true c.loop.invariant.1

pub loop-preserved : goal.loop-preserved
loop-preserved c =
    let further = c.loop.invariant.1 in
    (c.in-Some.edge.inside, (c.in-Some.edge.branch ∷ further.0, (c.loop.at, c.came_to.ensures.leads c.if-not-came_to.false, further.1)))
