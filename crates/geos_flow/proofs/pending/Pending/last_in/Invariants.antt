use Rattle.std.specs.Prelude.{◌≤◌}
use Rattle.geos_flow.specs.Pending.{NoneIn}
use Rattle.geos_flow.proofs.pending.Pending.last_in.Given as goal

abbrev pub invariant-loop-at : goal.invariant-loop-at
invariant-loop-at l = record {
  within : l.at ≤ l.end;
  none : NoneIn l.self l.at l.end;
}

abbrev pub decreases-loop-at : goal.decreases-loop-at
decreases-loop-at l = l.at
