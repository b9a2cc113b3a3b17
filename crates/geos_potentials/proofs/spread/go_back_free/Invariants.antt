use Rattle.std.proofs.Common.{◌+◌, ◌*◌}
use Rattle.geos_potentials.specs.Demands.{left_in, HaveGrown, StayWanted}
use Rattle.geos_potentials.specs.Least.{StayAtLoops}
use Rattle.geos_potentials.proofs.spread.go_back_free.Given as goal

-- what was required at first still is, and no number is less
abbrev pub invariant-loop-pc : goal.invariant-loop-pc
invariant-loop-pc l = record {
  wanted : StayWanted l.graph.arcs l.fn.spread l.spread;
  more : HaveGrown l.fn.spread l.spread;
  stay : StayAtLoops l.graph.arcs l.jumps l.fn.spread l.spread;
}

abbrev pub decreases-loop-pc : goal.decreases-loop-pc
decreases-loop-pc l = 2 * left_in l.spread + l.waits.count
