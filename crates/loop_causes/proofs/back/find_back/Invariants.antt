use Rattle.std.proofs.Common.{◌<◌, ℕ}
use Rattle.geos_code.specs.Code.{IsPcOf, TargetAhead}
use Rattle.loop_causes.proofs.back.find_back.Given as goal

-- the edges to targets of the instructions before pc lead ahead
abbrev pub invariant-loop-from : goal.invariant-loop-from
invariant-loop-from l = (pc : ℕ) → IsPcOf l.body.image.now l.body.r pc → pc < l.from → TargetAhead l.body.image.now l.body.r pc
