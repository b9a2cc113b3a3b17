use Rattle.geos_explain.specs.Places.{place_of}
use Rattle.geos_explain.specs.Lost.{AreHints}
use Rattle.geos_explain.proofs.arrivals.all_arrivals.Given as goal

abbrev pub invariant-loop : goal.invariant-loop
invariant-loop l = AreHints (place_of l.place) l.p l.found
