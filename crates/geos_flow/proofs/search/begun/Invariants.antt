use Rattle.std.specs.Prelude.{ℕ, ◌<◌}
use Rattle.geos_flow.specs.Waiting.{IsKept, Has, Waits}
use Rattle.geos_flow.proofs.search.begun.Given as goal

abbrev pub invariant-loop-pc : goal.invariant-loop-pc
invariant-loop-pc l = record {
  kept : IsKept l.waiting;
  was : (k : ℕ) → Has l.waiting.marks k → Has l.marks k;
  there : (k : ℕ) → k < l.pc → Has l.marks k → Has l.waiting.marks k;
  waits : (k : ℕ) → Has l.waiting.marks k → Waits l.waiting k;
}
