use Rattle.geos_potentials.specs.Stuck.{StayNoted}
use Rattle.geos_potentials.proofs.nests.Splitting.find.Given as goal

abbrev pub invariant-loop : goal.invariant-loop
invariant-loop l = StayNoted l.fn.classes l.classes
