use Rattle.std.proofs.Common.{◌<◌, List, Bool}
use Rattle.loop_causes.specs.Causes.{IsTrailBut}
use Rattle.loop_causes.proofs.trails.Trails.lead.Given as goal

-- the edges that were looked at lead on from here
abbrev pub invariant-loop : goal.invariant-loop
invariant-loop l = (l.at < 4096) × ((branches : List Bool) × IsTrailBut l.body.image.now l.body.r l.fn.counter l.fn.but l.at branches l.to)
