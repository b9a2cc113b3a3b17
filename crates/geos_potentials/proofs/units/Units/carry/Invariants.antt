use Rattle.std.proofs.Common.{◌+◌, ◌*◌}
use Rattle.geos_potentials.specs.Demands.{left_in, StayWanted}
use Rattle.geos_potentials.proofs.units.Units.carry.Given as goal

-- what was required at first still is
abbrev pub invariant-loop-pc : goal.invariant-loop-pc
invariant-loop-pc l = StayWanted l.graph.arcs l.fn.self.pay l.self.pay

abbrev pub decreases-loop-pc : goal.decreases-loop-pc
decreases-loop-pc l = 2 * left_in l.self.pay + l.self.waits.count
