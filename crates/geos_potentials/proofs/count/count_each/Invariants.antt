use Rattle.geos_potentials.specs.Onward.{AreFoundFrom}
use Rattle.geos_potentials.proofs.count.count_each.Given as goal

-- the routines from r on are counted
abbrev pub invariant-loop-r : goal.invariant-loop-r
invariant-loop-r l = AreFoundFrom l.image l.r l.routines l.known l.potentials l.left l.tables
