use Rattle.std.proofs.Common.{◌<◌, List, Bool}
use Rattle.geos_counters.specs.Idle.{IsUnpaidWay}
use Rattle.geos_potentials.proofs.unpaid.leads_on.Given as goal

-- the edges that were looked at lead on from here
abbrev pub invariant-loop : goal.invariant-loop
invariant-loop l = (l.at < 4096) × ((branches : List Bool) × IsUnpaidWay l.body.image.now l.body.r l.at branches l.to)
