use Rattle.std.proofs.Common.{◌<◌, ℕ}
use Rattle.geos_code.specs.Code.{IsPcOf}
use Rattle.geos_potentials.specs.Ranks.{AreNotedFrom}
use Rattle.geos_potentials.proofs.idle.are_noted.Given as goal

-- so it is of the instructions before pc
abbrev pub invariant-loop-pc : goal.invariant-loop-pc
invariant-loop-pc l = (pc : ℕ) → IsPcOf l.body.image.now l.body.r pc → pc < l.pc → AreNotedFrom l.body.image.now l.body.r l.classes pc
