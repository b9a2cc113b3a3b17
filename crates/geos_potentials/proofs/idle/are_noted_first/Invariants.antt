use Rattle.std.proofs.Common.{◌≡◌, ◌<◌, ℕ, true}
use Rattle.geos_potentials.specs.Ranks.{noted_idle}
use Rattle.geos_potentials.proofs.idle.are_noted_first.Given as goal

abbrev pub invariant-loop-counter : goal.invariant-loop-counter
invariant-loop-counter l = (k : ℕ) → k < l.counter → noted_idle l.classes l.body.start k ≡ true
