use Rattle.std.proofs.Common.{◌≤◌, ◌+◌, ◌*◌}
use Rattle.geos_potentials.specs.Demands.{left_in, HaveGrown, StayWanted}
use Rattle.geos_potentials.specs.Least.{StayAtLoops}
use Rattle.geos_potentials.proofs.spread.go_back_free_from.Given as goal

-- what was required at first still is, no number is less, and no more is left to do
abbrev pub invariant-loop : goal.invariant-loop
invariant-loop l = record {
  wanted : StayWanted l.graph.arcs l.fn.spread l.spread;
  more : HaveGrown l.fn.spread l.spread;
  stay : StayAtLoops l.graph.arcs l.jumps l.fn.spread l.spread;
  work : 2 * left_in l.spread + l.waits.count ≤ 2 * left_in l.fn.spread + l.fn.waits.count;
}
