use Rattle.std.proofs.Common.{ℕ, List, Bool, [], ◌∷◌, refl, subst, arith}
use Rattle.loop_causes.specs.Causes.{IsTrailBut}
use Rattle.loop_causes.proofs.trails.Trails.lead.Goals as goal

pub loop-init : goal.loop-init
loop-init c = (omega arith, ([], refl))

pub returns-then-at-from : goal.returns-then-at-from
returns-then-at-from c = λ is. subst (λ (n : ℕ). (branches : List Bool)
    × IsTrailBut c.args.body.now.image.now c.args.body.now.r c.args.counter c.args.but n branches c.args.to) c.if-at-from.true c.loop.invariant.1

pub loop-preserved : goal.loop-preserved
loop-preserved c =
    let further = c.loop.invariant.1 in
    (c.in-Some.edge.inside, (c.in-Some.edge.branch ∷ further.0, (c.loop.at, c.is_at.ensures c.if-is_at.false, c.came_to.ensures c.if-not-came_to.false, further.1)))
