use Rattle.std.proofs.Common.{sym, subst}
use Rattle.geos_potentials.specs.Demands.{AreWanted}
use Rattle.geos_potentials.specs.Least.{AreLeast, NoneOutside, AskNoMore}
use Rattle.geos_potentials.specs.declared.lengths.Lengths.{Lengths}
use Rattle.geos_potentials.proofs.Growing.{none-asks-more}
use Rattle.geos_potentials.proofs.Priced.{found-ways}
use Rattle.geos_potentials.proofs.search.Search.pay.Goals as goal

pub returns-clause-least : goal.returns-clause-least
returns-clause-least c = λ known table are.
    let body = c.args.body.now in
    let image = body.image.now in
    let arcs = c.args.self.now.graph.arcs in
    let units = c.free_loops.new.units in
    let old = c.pay_all.new.self.lengths.ways in
    let least = subst (λ (x : Lengths). AreLeast image body.r x.links old x.ways) (sym c.free_loops.ensures.lengths) c.find_constants.ensures.least in
    let outside = subst (λ (x : Lengths). NoneOutside image body.r x.links) (sym c.free_loops.ensures.lengths) c.find_constants.ensures.outside in
    let no_more = none-asks-more image body.r known table arcs are c.pay_all.new.splitting.jumps c.find_constants.new.units.pay units.pay
    c.free_loops.ensures.more c.free_loops.ensures.stay c.find_constants.new.units.lengths.links c.find_constants.ensures.looked in
    found-ways image body.r known table arcs are units.pay units.lengths.links
    (subst (λ (x : Lengths). AskNoMore image body.r arcs units.pay x.links) (sym c.free_loops.ensures.lengths) no_more)
    outside old units.lengths.ways least

pub returns-clause-wanted : goal.returns-clause-wanted
returns-clause-wanted c =
    let before = subst (AreWanted c.args.self.now.graph.arcs) (sym c.find_constants.ensures.pay) c.pay_all.ensures in
    c.free_loops.ensures.wanted before
