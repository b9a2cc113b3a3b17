use Rattle.std.proofs.Common.{◌≡◌}
use Rattle.geos_potentials.proofs.paying.Paying.weigh.Given as goal

abbrev pub invariant-loop-x : goal.invariant-loop-x
invariant-loop-x l = l.units.pay ≡ l.fn.units.pay
