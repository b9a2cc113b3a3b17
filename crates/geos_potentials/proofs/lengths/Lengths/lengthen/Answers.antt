use Rattle.std.proofs.Common.{◌≡◌, ◌≤◌, true, false, [], List, Option, None, get_or, sym, ap, ◌∙◌, subst, arith}
use Rattle.std.proofs.lemmas.List.{get_or_default}
use Rattle.geos_potentials.specs.Least.{PaysLink, link_at}
use Rattle.geos_potentials.specs.declared.lengths.Link.{Link}
use Rattle.geos_potentials.proofs.Costs.{at_most-set}
use Rattle.geos_potentials.proofs.lengths.Lengths.lengthen.Goals as goal

pub returns-clause-below : goal.returns-clause-below
returns-clause-below c = λ want pays most.
    let pc = c.args.pc in
    let read = c.get.ensures [] in
    let first : get_or c.get.result.now 0 None ≡ get_or c.get.result.now 0 c.index-get-0.result =
    get_or_default c.get.result.now 0 None c.index-get-0.result (omega arith) in
    let second : get_or c.get.result.now 1 None ≡ get_or c.get.result.now 1 c.index-get-1.result =
    get_or_default c.get.result.now 1 None c.index-get-1.result (omega arith) in
    let one : link_at c.args.self.now.links pc false ≡ get_or c.get.result.now 0 c.index-get-0.result =
    ap (λ (x : List (Option Link)). get_or x 0 None) (sym read) ∙ first in
    let two : link_at c.args.self.now.links pc true ≡ get_or c.get.result.now 1 c.index-get-1.result =
    ap (λ (x : List (Option Link)). get_or x 1 None) (sym read) ∙ second in
    let along = c.over-by_along.ensures.below want pc most (subst (PaysLink want pc) one (pays pc false)) in
    let branching = c.over-by_branching.ensures.below want pc most (subst (PaysLink want pc) two (pays pc true)) in
    let less : c.max-2.result ≤ want pc = omega (arith, c.max-2.ensures) in
    rw c.set.ensures (at_most-set c.args.self.now.ways pc _ want most less)
