use Rattle.geos_potentials.specs.Demands.{StayWanted}
use Rattle.geos_potentials.proofs.units.Units.pay_round.Given as goal

-- what was required at first still is
abbrev pub invariant-loop-id : goal.invariant-loop-id
invariant-loop-id l = StayWanted l.graph.arcs l.fn.self.pay l.self.pay
