-- Causes for which no image is accepted.
use Rattle.std.specs.Prelude.{◌≡◌, ◌<◌, ℕ, Bool, true, false, length}
use Rattle.geos_image.specs.Parts.{Parts}
use Rattle.geos_flow.specs.declared.cause.Cause.{Cause}
use Rattle.geos_flow.specs.declared.cause.Cause.TheVariants.{NoLoop, TouchedWithin, TouchedBefore, NotSet, StepsPass, WordUnbounded, NumberHigh}
use Rattle.geos_potentials.specs.Accepted.{HasAccepted}
use Rattle.loop_causes.specs.Causes.{Holds}
use Rattle.loop_causes.specs.Taken.{WordsPass}

-- if some path in a routine has more steps than a potential can say, no image with this code is accepted
abbrev pub NoneIsAcceptedPast : Type 0
NoneIsAcceptedPast = (image : Parts) (r : ℕ) → r < length image.routines → WordsPass image r → HasAccepted image → ⊥

-- with such a cause no numbers of steps are enough: nothing pays for a cycle, or control takes more steps than a
-- potential can say
abbrev pub is_final : Cause → Bool
is_final (NoLoop back) = true
is_final (TouchedWithin within) = true
is_final (TouchedBefore within) = true
is_final (NotSet own) = true
is_final StepsPass = true
is_final (WordUnbounded by_word) = true
is_final (NumberHigh by_number) = true
is_final _ = false

-- if such a cause holds of a routine, no image with this code is accepted
abbrev pub NoneIsAcceptedFor : Type 0
NoneIsAcceptedFor = (image : Parts) (r : ℕ) (cause : Cause) → r < length image.routines → is_final cause ≡ true
    → Holds image r cause → HasAccepted image → ⊥
