use Rattle.std.proofs.Common.{◌≡◌, ◌+◌}
use Rattle.geos_potentials.specs.Demands.{AreWanted}
use Rattle.geos_potentials.proofs.units.Units.pay_all.Given as goal

abbrev pub invariant-loop : goal.invariant-loop
invariant-loop l = record {
  wanted : AreWanted l.graph.arcs l.self.pay;
  round : l.round ≡ l.counter + 1;
}
