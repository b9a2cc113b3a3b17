use Rattle.std.specs.Prelude.{◌≤◌, ◌-◌}
use Rattle.geos_flow.specs.Pending.{NoneIn}
use Rattle.geos_flow.proofs.pending.Pending.first_in.Given as goal

abbrev pub invariant-loop-at : goal.invariant-loop-at
invariant-loop-at l = record {
  within : l.from ≤ l.at;
  none : NoneIn l.self l.from l.at;
}

abbrev pub decreases-loop-at : goal.decreases-loop-at
decreases-loop-at l = l.end - l.at
