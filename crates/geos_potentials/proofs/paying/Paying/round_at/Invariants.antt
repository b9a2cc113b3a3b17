use Rattle.std.proofs.Common.{◌<◌}
use Rattle.geos_potentials.proofs.paying.Paying.round_at.Given as goal

abbrev pub invariant-loop : goal.invariant-loop
invariant-loop l = l.at < 4096
