-- What stops the search for rows and potentials.
use Rattle.std.proofs.Common.{◌≡◌, ◌<◌, ℕ, length, true}
use Rattle.geos_image.specs.Legal.{is_image}
use Rattle.geos_image.specs.Parts.{Parts}
use Rattle.geos_rows.specs.Solutions.{NoRowsHoldIn}
use Rattle.geos_rows.specs.Why.{AreApart, MeetAlike}
use Rattle.geos_flow.specs.declared.apart.Apart.{Apart}
use Rattle.geos_rows.proofs.Weakening.{never-apart}
use Rattle.geos_counters.specs.Steps.{NoStepsHoldIn}
use Rattle.geos_infer.specs.Findings.{IsUnpaid, IsObstacle, Stops}
use Rattle.geos_infer.specs.Theorem.{NothingHoldsIn, HasReason}
use Rattle.geos_infer.specs.declared.finding.Unpaid.{Unpaid}
use Rattle.geos_infer.specs.declared.finding.Obstacle.{Obstacle}
use Rattle.geos_infer.specs.declared.finding.Obstacle.TheVariants.{SlotsDiffer, NoSteps}
use Rattle.geos_infer.specs.declared.finding.Finding.{Finding}
use Rattle.geos_infer.proofs.Found.{none-accepted}

-- where nothing holds in a routine of the image, what is in the way there stops the search
stops : (image : Parts) → is_image image ≡ true → (finding : Finding) → finding.routine < length image.routines
    → IsObstacle image finding.routine finding.obstacle → NothingHoldsIn image finding.routine → Stops image finding
stops image legal finding within is nothing = record {
  within = within;
  is = is;
  stuck = nothing;
  none = none-accepted image legal finding.routine within nothing;
}

-- so it is where no numbers of steps hold
pub no-steps : (image : Parts) → is_image image ≡ true → (r : ℕ) (unpaid : Unpaid) → r < length image.routines → IsUnpaid image r unpaid
    → Stops image (record { routine = r; obstacle = NoSteps unpaid })
no-steps image legal r unpaid within is = stops image legal (record { routine = r; obstacle = NoSteps unpaid }) within is
    (λ forward rows steps rows_hold steps_hold. is.none steps forward steps_hold)

-- and where no rows do
pub no-rows : (image : Parts) → is_image image ≡ true → (r : ℕ) (apart : Apart) → r < length image.routines → AreApart image r apart
    → NoRowsHoldIn image r → Stops image (record { routine = r; obstacle = SlotsDiffer apart })
no-rows image legal r apart within are none = stops image legal (record { routine = r; obstacle = SlotsDiffer apart }) within are
    (λ forward rows steps rows_hold steps_hold. none rows forward rows_hold)

-- where slots differ in marks at most, rows are known with which no numbers of steps are found
steps-or-apart : (image : Parts) (r : ℕ) (obstacle : Obstacle) → IsObstacle image r obstacle → MeetAlike image r
    → (unpaid : Unpaid) × IsUnpaid image r unpaid
steps-or-apart image r (SlotsDiffer apart) are meet = absurd (never-apart image r apart are meet)
steps-or-apart image r (NoSteps unpaid) is meet = (unpaid, is)

-- then no numbers of steps hold
pub steps-none : (image : Parts) (finding : Finding) → Stops image finding → MeetAlike image finding.routine → NoStepsHoldIn image finding.routine
steps-none image finding S meet =
    let found = steps-or-apart image finding.routine finding.obstacle S.is meet in
    let is = found.1 in
    is.none

pub has-reason : (image : Parts) (finding : Finding) → Stops image finding → MeetAlike image finding.routine → HasReason image finding.routine
has-reason image finding S meet =
    let found = steps-or-apart image finding.routine finding.obstacle S.is meet in
    let unpaid = found.0 in
    let is = found.1 in (unpaid.known, is.fit, (unpaid.reason, is.reason))
