use Rattle.geos_explain.specs.Places.{place_of}
use Rattle.geos_explain.proofs.FoundWays.{sought-losing, found-losing}
use Rattle.geos_explain.proofs.ways.losing.Goals as goal

pub returns-in-Some : goal.returns-in-Some
returns-in-Some c = sought-losing (place_of c.args.place.now) c.args.p c.args.to c.is_reached.result c.in-Some.way c.in-Some.ensures

pub returns-in-None : goal.returns-in-None
returns-in-None c =
    found-losing (place_of c.args.place.now) c.args.p c.args.to c.is_reached.result c.way_to-in-None.result c.in-None.ensures c.way_to-in-None.ensures
