use Rattle.std.proofs.Common.{◌<◌, ℕ, true, false}
use Rattle.geos_potentials.specs.Ranks.{GoesOn, IsNotedBehind}
use Rattle.geos_potentials.proofs.idle.are_noted_from.Given as goal

-- so it is of the counters so far
abbrev pub invariant-loop-counter : goal.invariant-loop-counter
invariant-loop-counter l = record {
  along : (k : ℕ) → k < l.counter → GoesOn l.body.image.now l.body.r l.classes l.pc false k;
  branching : (k : ℕ) → k < l.counter → GoesOn l.body.image.now l.body.r l.classes l.pc true k;
  behind : (k : ℕ) → k < l.counter → IsNotedBehind l.body.image.now l.body.r l.classes l.pc k;
}
