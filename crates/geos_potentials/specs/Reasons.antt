-- The reasons why no potentials are found for a routine.
use Rattle.std.specs.Prelude.{ℕ, List, Option}
use Rattle.geos_image.specs.declared.row.Row.{Row}
use Rattle.geos_image.specs.Parts.{Parts}
use Rattle.geos_potentials.specs.Constants.{HasLoops}
use Rattle.geos_potentials.specs.Halts.{IsInTheWay}
use Rattle.geos_counters.specs.Idle.{GoesRound}
use Rattle.geos_counters.specs.Steps.{NoStepsHoldIn}
use Rattle.geos_potentials.specs.declared.reason.Reason.{Reason}
use Rattle.geos_potentials.specs.declared.reason.Reason.TheVariants.{TooMany, NoLoop, InTheWay}

-- the reason is true. `TooMany`: routine r has no loops, and no numbers of steps hold in it. `NoLoop`: routine r has
-- a cycle through a back edge, without the edge of a LOOP to its target. `InTheWay`: the search has met an obstacle,
-- whatever rows are known.
abbrev pub IsReason : Parts → ℕ → List (Option Row) → Reason → Type 0
IsReason image r known TooMany = (HasLoops image r → ⊥) × NoStepsHoldIn image r
IsReason image r known (NoLoop back) = GoesRound image r back.from back.to
IsReason image r known (InTheWay halted) = IsInTheWay image r halted.halt
