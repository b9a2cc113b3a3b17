use Rattle.std.proofs.Common.{◌<◌, ℕ, Bool}
use Rattle.std.specs.Prelude.{slice_index}
use Rattle.geos_code.specs.Code.{IsPcOf}
use Rattle.geos_counters.specs.Idle.{LeadsIdle}
use Rattle.geos_potentials.proofs.ranks.all_rise.Given as goal

-- ranks rise along the edges from before pc
abbrev pub invariant-loop-pc : goal.invariant-loop-pc
invariant-loop-pc l = (pc to : ℕ) (branch : Bool) → IsPcOf l.body.image.now l.body.r pc → pc < l.pc
    → LeadsIdle l.body.image.now l.body.r pc branch to → slice_index l.ranks pc < slice_index l.ranks to
