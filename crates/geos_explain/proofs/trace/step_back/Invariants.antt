use Rattle.geos_explain.specs.Places.{place_of}
use Rattle.geos_explain.specs.Lost.{IsSound}
use Rattle.geos_explain.proofs.trace.step_back.Given as goal

abbrev pub invariant-loop : goal.invariant-loop
invariant-loop l = IsSound (place_of l.tracing.place.now) l.tracing.p l.trace
