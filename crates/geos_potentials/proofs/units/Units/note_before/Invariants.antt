use Rattle.std.proofs.Common.{◌≡◌}
use Rattle.geos_potentials.proofs.units.Units.note_before.Given as goal

abbrev pub invariant-loop-x : goal.invariant-loop-x
invariant-loop-x l = l.self.pay ≡ l.fn.self.pay
