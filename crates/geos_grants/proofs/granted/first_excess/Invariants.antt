use Rattle.geos_grants.specs.Grants.{IsGrantedBelow}
use Rattle.geos_grants.proofs.granted.first_excess.Given as goal

-- the public routines before r do only what is granted
abbrev pub invariant-loop-r : goal.invariant-loop-r
invariant-loop-r l = IsGrantedBelow l.image l.grants l.r
