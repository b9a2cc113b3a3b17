use Rattle.std.specs.Prelude.{◌<◌, ℕ}
use Rattle.geos_asm.specs.Unset.{NoneUnsetOf}
use Rattle.geos_asm.proofs.unset.unset_loop_in.Given as goal

-- none takes so from the counters so far
abbrev pub invariant-loop-counter : goal.invariant-loop-counter
invariant-loop-counter l = (k : ℕ) → k < l.counter → NoneUnsetOf l.image l.r k
