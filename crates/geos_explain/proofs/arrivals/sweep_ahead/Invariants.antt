use Rattle.std.specs.Prelude.{◌-◌}
use Rattle.geos_explain.specs.Places.{place_of}
use Rattle.geos_explain.specs.Lost.{AreHints}
use Rattle.geos_explain.proofs.arrivals.sweep_ahead.Given as goal

abbrev pub invariant-loop-from : goal.invariant-loop-from
invariant-loop-from l = AreHints (place_of l.place) l.p l.arrivals

abbrev pub decreases-loop-from : goal.decreases-loop-from
decreases-loop-from l = l.end - l.start
