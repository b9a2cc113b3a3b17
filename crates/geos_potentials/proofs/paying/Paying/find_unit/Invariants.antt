use Rattle.std.proofs.Common.{◌≡◌}
use Rattle.geos_potentials.proofs.paying.Paying.find_unit.Given as goal

abbrev pub invariant-loop-sweep : goal.invariant-loop-sweep
invariant-loop-sweep l = l.units.pay ≡ l.fn.units.pay
