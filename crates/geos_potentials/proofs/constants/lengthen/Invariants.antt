use Rattle.std.proofs.Common.{◌≡◌}
use Rattle.geos_potentials.specs.Least.{StayAtMost}
use Rattle.geos_potentials.proofs.constants.lengthen.Given as goal

-- the edges stay, ways stay at most what pays for them, and units pay for as much
abbrev pub invariant-loop : goal.invariant-loop
invariant-loop l = (l.units.lengths.links ≡ l.fn.units.lengths.links)
    × StayAtMost l.fn.units.lengths.links l.fn.units.lengths.ways l.units.lengths.ways × (l.units.pay ≡ l.fn.units.pay)
