use Rattle.std.specs.Prelude.{◌≤◌}
use Rattle.geos_explain.specs.Places.{place_of}
use Rattle.geos_explain.specs.Lost.{IsSound}
use Rattle.geos_explain.proofs.trace.sweep_back.Given as goal

abbrev pub invariant-loop-from : goal.invariant-loop-from
invariant-loop-from l = record {
  sound : IsSound (place_of l.tracing.place.now) l.tracing.p l.trace;
  ends : l.end ≤ 4096;
}

abbrev pub decreases-loop-from : goal.decreases-loop-from
decreases-loop-from l = l.end
