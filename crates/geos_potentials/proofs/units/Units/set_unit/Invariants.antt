use Rattle.geos_potentials.specs.Demands.{StayWanted}
use Rattle.geos_potentials.proofs.units.Units.set_unit.Given as goal

-- what was required at first still is
abbrev pub invariant-loop-x : goal.invariant-loop-x
invariant-loop-x l = StayWanted l.graph.arcs l.fn.self.pay l.self.pay
