use Rattle.std.proofs.Common.{◌+◌, ◌*◌}
use Rattle.geos_potentials.specs.Demands.{left_in}
use Rattle.geos_potentials.specs.Spreads.{HaveCome}
use Rattle.geos_potentials.proofs.spread.go_on.Given as goal

-- each number comes from where it was at first
abbrev pub invariant-loop-pc : goal.invariant-loop-pc
invariant-loop-pc l = HaveCome l.graph.arcs l.low l.fn.spread l.spread

abbrev pub decreases-loop-pc : goal.decreases-loop-pc
decreases-loop-pc l = 2 * left_in l.spread + l.waits.count
