-- No image is accepted that has the code of a routine for which such a cause holds that no numbers of steps are enough.
use Rattle.std.proofs.Common.{ℕ, Bool, true, List, [], ◌∷◌, sym, ◌∙◌}
use Rattle.std.proofs.lemmas.Bool.{false≢true}
use Rattle.geos_image.specs.Keys.{branches}
use Rattle.geos_image.specs.Parts.{Parts}
use Rattle.geos_counters.specs.Idle.{LeadsUnpaid, IsUnpaidWay, GoesRound, LeadsIdle, IsIdleWay, IsNeverPaid}
use Rattle.geos_infer.specs.Refusals.{NoneIsAcceptedFor}
use Rattle.geos_flow.specs.declared.cause.Cause.TheVariants.{NoLoop, TouchedWithin, TouchedBefore, NotSet, StepsPass, WordUnbounded, NumberHigh}
use Rattle.geos_infer.proofs.Past.{words-none, none-accepted-past}
use Rattle.geos_potentials.proofs.Unpayable.{none-accepted-round}

-- Where no LOOP is on the way

unpaid-idle : (image : Parts) (r pc to : ℕ) (branch : Bool) → LeadsUnpaid image r pc branch to → LeadsIdle image r pc branch to
unpaid-idle image r pc to branch lead = record {
  leads = lead.leads;
  stays = lead.stays;
  idle = λ loops. absurd (false≢true (sym (lead.unpaid lead.leads.point lead.leads.there) ∙ loops));
}

unpaid-way : (image : Parts) (r : ℕ) (branches : List Bool) (from to : ℕ) → IsUnpaidWay image r from branches to → IsIdleWay image r from branches to
unpaid-way image r [] from to way = way
unpaid-way image r (branch ∷ branches) from to way = (way.0, unpaid-idle image r from way.0 branch way.1, unpaid-way image r branches way.0 to way.2)

pub round-never : (image : Parts) (r from to : ℕ) → GoesRound image r from to → IsNeverPaid image r
round-never image r from to round = record {
  from = from;
  begins = round.begins;
  branch = true;
  next = to;
  first = unpaid-idle image r from to true round.leads;
  branches = round.branches;
  way = unpaid-way image r round.branches to from round.way;
}

-- Causes

pub none-accepted-for : NoneIsAcceptedFor
none-accepted-for image r (NoLoop back) lt final holds has = none-accepted-round image r lt (round-never image r back.from back.to holds) has
none-accepted-for image r (TouchedWithin within) lt final holds has = none-accepted-round image r lt holds.1 has
none-accepted-for image r (TouchedBefore within) lt final holds has = none-accepted-round image r lt holds.1 has
none-accepted-for image r (NotSet own) lt final holds has = none-accepted-round image r lt holds.1 has
none-accepted-for image r StepsPass lt final holds has = none-accepted-past image r lt (words-none image r holds) has
none-accepted-for image r (WordUnbounded by_word) lt final holds has = none-accepted-past image r lt holds.1 has
none-accepted-for image r (NumberHigh by_number) lt final holds has = none-accepted-past image r lt holds.1 has
none-accepted-for image r _ lt final holds has = absurd (false≢true final)
