-- What stops the search for rows and potentials.
use Rattle.std.specs.Prelude.{◌<◌, ℕ, length}
use Rattle.geos_image.specs.Parts.{Parts}
use Rattle.geos_rows.specs.Reached.{FitWhereReached}
use Rattle.geos_rows.specs.Why.{AreApart}
use Rattle.geos_potentials.specs.Reasons.{IsReason}
use Rattle.geos_counters.specs.Steps.{NoStepsHoldIn}
use Rattle.geos_infer.specs.Theorem.{NoneIsAccepted, NothingHoldsIn}
use Rattle.geos_infer.specs.declared.finding.Unpaid.{Unpaid}
use Rattle.geos_infer.specs.declared.finding.Obstacle.{Obstacle}
use Rattle.geos_infer.specs.declared.finding.Obstacle.TheVariants.{SlotsDiffer, NoSteps}
use Rattle.geos_infer.specs.declared.finding.Finding.{Finding}
use Rattle.geos_infer.specs.declared.finding.FindError.{FindError}
use Rattle.geos_infer.specs.declared.finding.FindError.TheVariants.{Stopped, Memory}

-- rows are known that hold wherever control reaches in routine r; with these rows no numbers of steps are found, and
-- the given reason is true
pub record IsUnpaid (image : Parts) (r : ℕ) (unpaid : Unpaid) : Type 0 where
  pub fit : FitWhereReached image r unpaid.known
  pub reason : IsReason image r unpaid.known unpaid.reason
  pub none : NoStepsHoldIn image r

-- what the obstacle says of routine r is true
abbrev pub IsObstacle : Parts → ℕ → Obstacle → Type 0
IsObstacle image r (SlotsDiffer apart) = AreApart image r apart
IsObstacle image r (NoSteps unpaid) = IsUnpaid image r unpaid

-- a finding names a routine of the image and its obstacle. Nothing holds in the routine, and no image with this code
-- is accepted, or there are loops.
pub record Stops (image : Parts) (finding : Finding) : Type 0 where
  pub within : finding.routine < length image.routines
  pub is : IsObstacle image finding.routine finding.obstacle
  pub stuck : NothingHoldsIn image finding.routine
  pub none : NoneIsAccepted image

-- why no rows and potentials are found: a finding that is true, or lack of memory
abbrev pub IsWhyNone : Parts → FindError → Type 0
IsWhyNone image (Stopped finding) = Stops image finding
IsWhyNone image Memory = Unit {0}
