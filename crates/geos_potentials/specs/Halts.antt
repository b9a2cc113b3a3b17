-- Obstacles that stop a search for potentials.
use Rattle.std.specs.Prelude.{ℕ}
use Rattle.geos_image.specs.Parts.{Parts}
use Rattle.geos_counters.specs.Idle.{IsNeverPaid}
use Rattle.geos_potentials.specs.Accepted.{HasAccepted}
use Rattle.geos_potentials.specs.declared.search.Halt.{Halt}
use Rattle.geos_potentials.specs.declared.search.Halt.TheVariants.{Stuck}

-- if the search of routine r is stuck, the routine has a cycle without a LOOP that may pay, so no image with this
-- code is accepted
abbrev pub IsInTheWay : Parts → ℕ → Halt → Type 0
IsInTheWay image r (Stuck piece) = IsNeverPaid image r × (HasAccepted image → ⊥)
IsInTheWay image r _ = Unit {0}
