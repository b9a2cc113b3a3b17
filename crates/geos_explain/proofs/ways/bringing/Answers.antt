use Rattle.std.proofs.Common.{true, subst}
use Rattle.geos_explain.specs.Lost.{FindsWay, IsSought}
use Rattle.geos_explain.specs.Places.{place_of}
use Rattle.geos_explain.proofs.FoundWays.{found-bringing}
use Rattle.geos_explain.proofs.ways.bringing.Goals as goal

pub returns : goal.returns
returns c =
    let place = place_of c.args.place.now in
    found-bringing place c.args.p c.args.to c.way_to.result
    (subst (λ b. FindsWay place (λ way. IsSought place (record { p = c.args.p; known = true; reached = b }) c.args.to way) c.way_to.result)
    c.is_reached.ensures c.way_to.ensures)
