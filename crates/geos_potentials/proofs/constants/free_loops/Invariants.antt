use Rattle.std.proofs.Common.{◌≡◌}
use Rattle.geos_potentials.specs.Demands.{HaveGrown, StayWanted}
use Rattle.geos_potentials.specs.Least.{StayAtLoops}
use Rattle.geos_potentials.proofs.constants.free_loops.Given as goal

-- edges and paths stay, what was required at first still is, and prices have only grown, but not at LOOPs whose edges
-- are examined
abbrev pub invariant-loop-pc : goal.invariant-loop-pc
invariant-loop-pc l = record {
  lengths : l.units.lengths ≡ l.fn.units.lengths;
  wanted : StayWanted l.graph.arcs l.fn.units.pay l.units.pay;
  more : HaveGrown l.fn.units.pay l.units.pay;
  stay : StayAtLoops l.graph.arcs l.splitting.jumps l.fn.units.pay l.units.pay;
}
