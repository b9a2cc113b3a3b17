use Rattle.loop_causes.specs.Noted.{StayTrails}
use Rattle.loop_causes.proofs.trails.Trails.go.Given as goal

abbrev pub invariant-loop : goal.invariant-loop
invariant-loop l = StayTrails l.fn.self l.self
