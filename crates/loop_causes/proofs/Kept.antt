-- Paths on which a counter does not change.
use Rattle.std.proofs.Common.{◌+◌, ℕ, Bool, List, [], ◌∷◌, Option, Some}
use Rattle.geos_image.specs.Parts.{Parts}
use Rattle.loop_causes.specs.Causes.{ComesRound, IsTrailBut, IsKeptBut}
use Rattle.geos_counters.specs.Idle.{IsKept}
use Rattle.geos_counters.specs.Trails.{IsTrail}

-- a path that avoids a pc is a path
trail-any : (image : Parts) (r : ℕ) (counter but : Option ℕ) (from : ℕ) (branches : List Bool) (to : ℕ)
    → IsTrailBut image r counter but from branches to → IsTrail image r counter from branches to
trail-any image r counter but from [] to trail = trail
trail-any image r counter but from (branch ∷ branches) to trail = (trail.0, trail.2, trail-any image r counter but trail.0 branches to trail.3)

pub comes-any : (image : Parts) (r : ℕ) (counter but : Option ℕ) (from to : ℕ)
    → ((branches : List Bool) × IsTrailBut image r counter but from branches to) → ComesRound image r counter from to
comes-any image r counter but from to way = (way.0, trail-any image r counter but from way.0 to way.1)

pub kept-any : (image : Parts) (r counter at : ℕ) (but : Option ℕ) (to : ℕ) → IsKeptBut image r counter at but to → IsKept image r counter at to
kept-any image r counter at but to kept = record {
  behind = kept.behind;
  branches = kept.branches;
  trail = trail-any image r (Some counter) but (at + 1) kept.branches to kept.trail;
}
