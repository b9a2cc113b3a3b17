use Rattle.std.proofs.Common.{◌≡◌, ℕ, ◌<◌, true, length}
use Rattle.geos_grants.specs.Routines.{has_effect, ComesBy}
use Rattle.geos_grants.proofs.routines.find_source.Given as goal

-- the routine has the effect, and the first one comes to it
abbrev pub invariant-down : goal.invariant-down
invariant-down l = (l.q < length l.image.routines) × (has_effect l.image l.effect l.q ≡ true) × ((n : ℕ) × ComesBy n l.image l.r l.q)

abbrev pub decreases-down : goal.decreases-down
decreases-down l = l.q
