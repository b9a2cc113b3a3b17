use Rattle.std.specs.Prelude.{◌≡◌}
use Rattle.geos_explain.specs.Places.{last_of, place_of}
use Rattle.geos_explain.specs.Forgotten.{forgets_at}
use Rattle.geos_explain.proofs.forgotten.forgetting_call.Given as goal

abbrev pub invariant-loop-k : goal.invariant-loop-k
invariant-loop-k l = l.last ≡ last_of (place_of l.place) (forgets_at (place_of l.place) l.item) l.k
