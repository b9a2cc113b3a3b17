use Rattle.std.specs.Prelude.{◌≡◌}
use Rattle.geos_flow.proofs.pending.Pending.settle.Given as goal

abbrev pub invariant-loop-block : goal.invariant-loop-block
invariant-loop-block l = l.self ≡ l.initial.self
