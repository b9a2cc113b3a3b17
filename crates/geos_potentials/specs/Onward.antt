-- The invariant while routines are counted, from the last to the first.
use Rattle.std.specs.Prelude.{◌≡◌, ◌<◌, ℕ, List, Option, None, IfSome}
use Rattle.geos_image.specs.Parts.{Parts}
use Rattle.geos_image.specs.declared.potential.Potential.{Potential}
use Rattle.geos_image.specs.declared.row.Row.{Row}
use Rattle.geos_potentials.specs.Constants.{AreLeastFrom}
use Rattle.geos_potentials.specs.Count.{AreCounted}
use Rattle.geos_potentials.specs.Numbers.{numbers_of}
use Rattle.geos_potentials.specs.Reasons.{IsReason}
use Rattle.geos_counters.specs.Steps.{NoStepsHoldIn}
use Rattle.geos_counters.specs.Touching.{NotesTouched}
use Rattle.geos_potentials.specs.declared.count.Tables.{Tables}
use Rattle.geos_potentials.specs.declared.reason.Unfound.{Unfound}

-- of the first `count` routines, those from `from` on are counted. If none of them is left over, their numbers are
-- the least. If one is left over, no numbers of steps hold in it, and its reason is true. The table of touched
-- counters, if it is made, is true.
pub record AreFoundFrom (image : Parts) (from count : ℕ) (known : List (Option Row)) (potentials : List Potential) (left : Option Unfound)
    (tables : Option Tables) : Type 0 where
  pub counted : AreCounted image from count (numbers_of potentials)
  pub least : left ≡ None → AreLeastFrom image from count known (numbers_of potentials)
  pub within : IfSome left (λ unfound. unfound.routine < count)
  pub none : IfSome left (λ unfound. NoStepsHoldIn image unfound.routine)
  pub reason : IfSome left (λ unfound. IsReason image unfound.routine known unfound.reason)
  pub touched : IfSome tables (λ it. NotesTouched image it.touched)
