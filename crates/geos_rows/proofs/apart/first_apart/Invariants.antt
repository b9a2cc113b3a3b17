use Rattle.geos_rows.specs.Meeting.{IsSpread, count_unknown}
use Rattle.geos_rows.proofs.apart.first_apart.Given as goal

abbrev pub invariant-loop-apart : goal.invariant-loop-apart
invariant-loop-apart l = IsSpread l.body.image.now l.body.r l.known l.waits

abbrev pub decreases-loop-apart : goal.decreases-loop-apart
decreases-loop-apart l = count_unknown l.known
