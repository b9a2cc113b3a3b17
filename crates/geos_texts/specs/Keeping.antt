-- When routines stay within grants and within a number of steps.
use Rattle.std.specs.Prelude.{◌≡◌, ℕ, List, Ok, Option}
use Rattle.geos_image.specs.declared.routine.Routine.{Routine}
use Rattle.geos_image.specs.Parts.{Parts}
use Rattle.geos_image.specs.Reading.{image_at, Fails}
use Rattle.geos_verify.specs.Rules.{IsChecked}
use Rattle.geos_texts.specs.Budgets.{IsWithin, IsOver}
use Rattle.geos_grants.specs.declared.effects.Effects.{Effects}
use Rattle.geos_grants.specs.declared.granted.Excess.{Excess}
use Rattle.geos_grants.specs.Grants.{IsGranted, IsExcess}
use Rattle.geos_texts.specs.declared.fault.TextFault.{TextFault}
use Rattle.geos_texts.specs.declared.fault.TextFault.TheVariants.{Read, NotGranted, OverLimit}

-- if the bytes encode an image that the verifier accepts, its public routines do only what is granted
abbrev pub KeepsToGrants : List ℕ → Effects → Type 0
KeepsToGrants bytes grants = (image : Parts) → image_at bytes ≡ Ok image → IsChecked image → IsGranted image grants

-- the bytes encode an image that the verifier accepts, and one of its public routines does more than is granted
abbrev pub IsDenied : List ℕ → Effects → Type 0
IsDenied bytes grants = (image : Parts) × (image_at bytes ≡ Ok image) × IsChecked image × ((excess : Excess) × IsExcess image grants excess)

-- why the routines are not granted: one of them does more, or the bytes encode no image, or there is no memory
abbrev pub IsWhyDenied : List ℕ → Effects → TextFault → Type 0
IsWhyDenied bytes grants (NotGranted text) = IsDenied bytes grants
IsWhyDenied bytes grants (Read fault) = Fails fault (image_at bytes)
IsWhyDenied bytes grants _ = ⊥

-- if the bytes encode an image, its public routines, or the one that is called, have budgets of at most so many steps
abbrev pub KeepsToSteps : List ℕ → Option (List ℕ) → ℕ → Type 0
KeepsToSteps bytes called most = (image : Parts) → image_at bytes ≡ Ok image → IsWithin image called most

-- the bytes encode an image with this public routine, which may be called and has a higher budget
abbrev pub IsOverIn : List ℕ → Option (List ℕ) → ℕ → Routine → Type 0
IsOverIn bytes called most routine = (image : Parts) × (image_at bytes ≡ Ok image) × ((r : ℕ) × IsOver image called most r routine)

-- why the routines may take too many steps: one of them has a higher budget, or the bytes encode no image, or there is no memory
abbrev pub IsWhyOver : List ℕ → Option (List ℕ) → ℕ → TextFault → Type 0
IsWhyOver bytes called most (OverLimit name budget) = (routine : Routine) × IsOverIn bytes called most routine × (routine.budget ≡ budget)
IsWhyOver bytes called most (Read fault) = Fails fault (image_at bytes)
IsWhyOver bytes called most _ = ⊥
