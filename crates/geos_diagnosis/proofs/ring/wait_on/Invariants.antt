use Rattle.std.proofs.Common.{◌<◌, List}
use Rattle.loop_causes.specs.Causes.{LoopsTo, WaitOn}
use Rattle.geos_flow.specs.declared.back_way.BackWay.{BackWay}
use Rattle.geos_diagnosis.proofs.ring.wait_on.Given as goal

-- loops from the first one on wait each for the next
abbrev pub invariant-loop : goal.invariant-loop
invariant-loop l = record {
  from : l.back.from < 4096;
  to : l.back.to < 4096;
  loops : LoopsTo l.body.image.now l.body.r l.back l.taken;
  others : List BackWay;
  rest : WaitOn l.body.image.now l.body.r l.from others l.back;
}
