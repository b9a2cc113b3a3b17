use Rattle.std.proofs.Common.{◌<◌, ℕ}
use Rattle.geos_code.specs.Code.{IsPcOf}
use Rattle.geos_potentials.specs.Constants.{IsPaidAt}
use Rattle.geos_potentials.specs.Numbers.{numbers_of}
use Rattle.geos_potentials.proofs.paid.are_paid.Given as goal

-- all edges and returns before pc are paid for
abbrev pub invariant-loop-pc : goal.invariant-loop-pc
invariant-loop-pc l = (pc : ℕ) → IsPcOf l.body.image.now l.body.r pc → pc < l.pc
    → IsPaidAt l.body.image.now l.body.r l.known (numbers_of l.potentials) pc
