use Rattle.std.proofs.Common.{◌<◌}
use Rattle.loop_causes.proofs.trails.Trails.origin.Given as goal

abbrev pub invariant-loop : goal.invariant-loop
invariant-loop l = l.at < 4096
