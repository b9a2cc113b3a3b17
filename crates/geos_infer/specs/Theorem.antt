-- The rows and potentials that are found are enough wherever some are.
use Rattle.std.specs.Prelude.{◌≡◌, ◌<◌, ℕ, false, List, Option, length}
use Rattle.geos_image.specs.declared.row.Row.{Row}
use Rattle.geos_image.specs.declared.point.Point.{Point}
use Rattle.geos_image.specs.Parts.{Parts}
use Rattle.geos_verify.specs.Rules.{IsAcceptable}
use Rattle.geos_infer.specs.declared.error.InferError.{InferError}
use Rattle.geos_infer.specs.declared.error.InferError.TheVariants.{NoRows, Memory}
use Rattle.geos_code.specs.Code.{Forward, ForwardIn, SameCode}
use Rattle.geos_rows.specs.Solutions.{RowsHoldIn}
use Rattle.geos_potentials.specs.Reasons.{IsReason}
use Rattle.geos_counters.specs.Steps.{StepsHoldIn}
use Rattle.geos_potentials.specs.declared.reason.Reason.{Reason}
use Rattle.geos_rows.specs.Reached.{AllHoldWhereReached, FitWhereReached}
use Rattle.geos_rows.specs.Why.{MeetAlike}
use Rattle.geos_potentials.specs.Constants.{HasLeastConstants, HasCoefficientsForLoops, PaysForLoops}
use Rattle.geos_potentials.specs.Accepted.{HasAccepted}

-- the routines of the image with these points, and all rows
abbrev pub with_points : Parts → List Point → Parts
with_points image points = record { keyed = false; routines = image.routines; points = points }

-- what is found is accepted, if its code has no loops and some image with that code is
abbrev pub FindsWhatThereIs : Parts → Parts → Type 0
FindsWhatThereIs skeleton found = Forward skeleton → HasAccepted skeleton → IsAcceptable found

-- no image is accepted that has this code, or the code has loops
abbrev pub NoneIsAccepted : Parts → Type 0
NoneIsAccepted skeleton = Forward skeleton → HasAccepted skeleton → ⊥

-- no rows and numbers of steps hold in routine r, or it has loops
abbrev pub NothingHoldsIn : Parts → ℕ → Type 0
NothingHoldsIn image r = ForwardIn image r → (rows : List Row) (steps : List ℕ) → RowsHoldIn image r rows → StepsHoldIn image r steps → ⊥

-- rows and potentials are found for all of the skeleton's code. The rows hold wherever control reaches, and where
-- paths meet their slots differ in marks at most. In routines with loops the potentials pay; the constants are the
-- least that pay with these coefficients, and each coefficient is required.
pub record IsInferred (skeleton found : Parts) : Type 0 where
  pub code : SameCode skeleton found
  pub all : found.keyed ≡ false
  pub rows : AllHoldWhereReached found
  pub alike : (r : ℕ) → r < length skeleton.routines → MeetAlike skeleton r
  pub paid : PaysForLoops found
  pub least : HasLeastConstants found
  pub wanted : HasCoefficientsForLoops found
  pub what_there_is : FindsWhatThereIs skeleton found

-- if an error names a routine, it is one of the image
abbrev pub NamesRoutine : Parts → InferError → Type 0
NamesRoutine image (NoRows r) = r < length image.routines
NamesRoutine image Memory = Unit {0}

-- with these rows there is a reason for which no potentials are found for routine r
abbrev pub HasReasonWith : Parts → ℕ → List (Option Row) → Type 0
HasReasonWith image r known = (reason : Reason) × IsReason image r known reason

-- there is one with rows that hold wherever control reaches in it
abbrev pub HasReason : Parts → ℕ → Type 0
HasReason image r = (known : List (Option Row)) × FitWhereReached image r known × HasReasonWith image r known
