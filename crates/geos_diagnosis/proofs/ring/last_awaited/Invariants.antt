use Rattle.std.proofs.Common.{◌<◌}
use Rattle.loop_causes.specs.Causes.{LoopsTo}
use Rattle.geos_diagnosis.proofs.ring.last_awaited.Given as goal

abbrev pub invariant-loop : goal.invariant-loop
invariant-loop l = record {
  loops : LoopsTo l.body.image.now l.body.r l.back l.taken;
  from : l.back.from < 4096;
  to : l.back.to < 4096;
}
