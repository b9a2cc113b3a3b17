use Rattle.std.proofs.Common.{◌≡◌}
use Rattle.geos_potentials.specs.Least.{StayAtMost}
use Rattle.geos_potentials.proofs.lengths.Lengths.lengthen_first.Given as goal

-- the edges stay, and ways stay at most what pays for them
abbrev pub invariant-loop-pc : goal.invariant-loop-pc
invariant-loop-pc l = record {
  links : l.self.links ≡ l.fn.self.links;
  below : StayAtMost l.fn.self.links l.fn.self.ways l.self.ways;
}
