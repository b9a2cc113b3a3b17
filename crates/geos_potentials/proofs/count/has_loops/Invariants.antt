use Rattle.std.proofs.Common.{◌<◌, ◌⊎◌, ℕ}
use Rattle.geos_code.specs.Code.{IsPcOf}
use Rattle.geos_potentials.specs.Constants.{IsLoopAt, GoesBack}
use Rattle.geos_potentials.proofs.count.has_loops.Given as goal

-- no instruction before pc is a LOOP, or leads back
abbrev pub invariant-loop-pc : goal.invariant-loop-pc
invariant-loop-pc l = (pc : ℕ) → IsPcOf l.body.image.now l.body.r pc → pc < l.pc
    → IsLoopAt l.body.image.now pc ⊎ GoesBack l.body.image.now l.body.r pc → ⊥
