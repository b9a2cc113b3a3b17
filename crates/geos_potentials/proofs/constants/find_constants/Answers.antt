use Rattle.std.proofs.Common.{ℕ, List, Option, sym, subst}
use Rattle.geos_potentials.specs.Least.{PayAll, AreLookedAt}
use Rattle.geos_potentials.specs.declared.lengths.Link.{Link}
use Rattle.geos_potentials.proofs.constants.find_constants.Goals as goal

pub returns-clause-least : goal.returns-clause-least
returns-clause-least c = λ want pays ends. c.lengthen.ensures.below want
    (subst (λ (xs : List (List (Option Link))). PayAll xs want) c.lengthen.ensures.links pays) (c.begin.ensures.ends want ends)

pub returns-clause-looked : goal.returns-clause-looked
returns-clause-looked c =
    let image = c.args.body.now.image.now in
    let r = c.args.body.now.r in
    let arcs = c.args.graph.now.arcs in
    let jumps = c.args.splitting.now.jumps in
    subst (λ (pay : List (List ℕ)). AreLookedAt image r arcs jumps pay c.lengthen.new.units.lengths.links) (sym c.lengthen.ensures.pay)
    (subst (AreLookedAt image r arcs jumps c.begin.new.units.pay) (sym c.lengthen.ensures.links) c.begin.ensures.looked)
