use Rattle.std.specs.Prelude.{◌≡◌}
use Rattle.geos_explain.specs.Places.{place_of}
use Rattle.geos_explain.specs.Since.{since_below}
use Rattle.geos_explain.proofs.since.held_since.Given as goal

abbrev pub invariant-loop-k : goal.invariant-loop-k
invariant-loop-k l = l.since ≡ since_below (place_of l.place) l.a l.k
