use Rattle.geos_potentials.specs.Numbers.{numbers_of}
use Rattle.geos_infer.proofs.Copies.{Made}
use Rattle.geos_infer.proofs.inference.points_of.Given as goal

abbrev pub invariant-loop-pc : goal.invariant-loop-pc
invariant-loop-pc l = Made l.image l.known (numbers_of l.potentials) l.pc l.points.items
