use Rattle.std.proofs.Common.{◌≡◌, take}
use Rattle.geos_verify.specs.Places.{places, RowAt}
use Rattle.geos_verify.proofs.place.places_of.Given as goal

-- the places before the pc are there, and the row is what is known at the pc
abbrev pub invariant-loop-pc : goal.invariant-loop-pc
invariant-loop-pc l = (l.places.items ≡ take l.pc (places l.image)) × RowAt l.image l.pc l.row
