use Rattle.std.proofs.Common.{◌<◌}
use Rattle.geos_potentials.proofs.ring.is_ring.Given as goal

abbrev pub invariant-loop : goal.invariant-loop
invariant-loop l = l.id < 4096
