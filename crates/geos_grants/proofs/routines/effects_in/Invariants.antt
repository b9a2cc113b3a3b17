use Rattle.std.proofs.Common.{◌≡◌, ◌-◌, take}
use Rattle.std.specs.List.{list_any}
use Rattle.geos_image.specs.Parts.{start_of}
use Rattle.geos_verify.specs.Places.{RowAt}
use Rattle.geos_grants.specs.declared.effect.Effect.{Effect}
use Rattle.geos_grants.specs.Routines.{acts, noted, places_of}
use Rattle.geos_grants.specs.Sets.{has}
use Rattle.geos_grants.proofs.routines.effects_in.Given as goal

-- the row is what is known at the pc, and the set has what the places before it do
abbrev pub invariant-loop-pc : goal.invariant-loop-pc
invariant-loop-pc l =
    RowAt l.image l.pc l.row
    × ((effect : Effect) → has l.found effect ≡ list_any (acts effect (noted l.table effect))
    (take (l.pc - start_of l.image.routines l.r) (places_of l.image l.r)))
