use Rattle.std.proofs.Common.{◌≡◌, ◌-◌, false, take}
use Rattle.std.specs.List.{list_any}
use Rattle.geos_image.specs.Parts.{start_of}
use Rattle.geos_verify.specs.Places.{RowAt}
use Rattle.geos_grants.specs.Routines.{acts, noted, places_of}
use Rattle.geos_grants.proofs.routines.source_in.Given as goal

-- the row is what is known at the pc, and no place before it has the effect
abbrev pub invariant-loop-pc : goal.invariant-loop-pc
invariant-loop-pc l =
    RowAt l.image l.pc l.row
    × (list_any (acts l.effect (noted l.table l.effect)) (take (l.pc - start_of l.image.routines l.r) (places_of l.image l.r)) ≡ false)
