use Rattle.std.proofs.Common.{◌≡◌, length}
use Rattle.geos_potentials.specs.Count.{StaysFrom}
use Rattle.geos_potentials.specs.Numbers.{numbers_of}
use Rattle.geos_potentials.proofs.Priced.{PutBelow}
use Rattle.geos_potentials.proofs.constants.put_potentials.Given as goal

-- the numbers before pc are written, and those after the routine stay
abbrev pub invariant-loop-pc : goal.invariant-loop-pc
invariant-loop-pc l = (length l.potentials ≡ 4096) × StaysFrom l.body.end (numbers_of l.fn.potentials) (numbers_of l.potentials)
    × PutBelow l.body.image.now l.body.r l.units.pay l.units.lengths.ways l.pc (numbers_of l.potentials)
