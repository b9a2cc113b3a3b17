use Rattle.std.specs.Prelude.{◌≡◌, ◌<◌, ℕ, None, slice_index_or}
use Rattle.geos_image.specs.declared.routine.Routine.{Routine}
use Rattle.geos_image.specs.Parts.{start_of}
use Rattle.geos_verify.specs.declared.place.Place.{Place}
use Rattle.geos_verify.specs.Rules.{HasPoint, refusal}
use Rattle.geos_verify.proofs.refused.refused_places.Given as goal

-- the places of the routines below r are noted
abbrev pub invariant-loop-r : goal.invariant-loop-r
invariant-loop-r l =
    (r pc : ℕ) (routine : Routine) (place : Place) → r < l.r → HasPoint l.image r routine pc place
    → slice_index_or l.rules pc None ≡ refusal l.image r routine (start_of l.image.routines r) pc place
