-- Every place that is refused, and which counters routines touch wherever their calls lead.
use Rattle.std.specs.Prelude.{◌≡◌, ◌<◌, ℕ, Bool, List, Option, None, slice_index_or}
use Rattle.geos_image.specs.declared.routine.Routine.{Routine}
use Rattle.geos_image.specs.Parts.{Parts, start_of}
use Rattle.geos_verify.specs.declared.place.Place.{Place}
use Rattle.geos_verify.specs.declared.rule.Rule.{Rule}
use Rattle.geos_verify.specs.Rules.{HasPoint, refusal}
use Rattle.geos_verify.specs.Touched.{noted, touches_within}

-- a table says which counters each routine touches, or one that it reaches by calls, in a chain of so many routines
abbrev pub KnowsTouchedWithin : Parts → List (List Bool) → ℕ → Type 0
KnowsTouchedWithin image table depth = (c k : ℕ) → k < 4 → noted table k c ≡ touches_within depth image k c

-- the list has, for each pc of the image, the lowest rule that refuses there, or None if no rule does
abbrev pub AreRefusals : Parts → List (Option Rule) → Type 0
AreRefusals image rules = (r pc : ℕ) (routine : Routine) (place : Place) → HasPoint image r routine pc place
    → slice_index_or rules pc None ≡ refusal image r routine (start_of image.routines r) pc place
