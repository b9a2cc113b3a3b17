use Rattle.std.specs.Prelude.{◌<◌, ◌≤◌, ℕ}
use Rattle.geos_asm.specs.Unset.{TakesUnset}
use Rattle.geos_asm.proofs.unset.unset_loop.Given as goal

-- none of the routine's instructions so far takes so
abbrev pub invariant-loop-pc : goal.invariant-loop-pc
invariant-loop-pc l = (pc : ℕ) → l.start ≤ pc → pc < l.pc → TakesUnset l.image l.r l.k pc → ⊥
