use Rattle.std.specs.Prelude.{◌<◌, ℕ}
use Rattle.geos_asm.specs.Unset.{NoneUnsetIn}
use Rattle.geos_asm.proofs.unset.first_unset_loop.Given as goal

-- none of the routines so far takes so
abbrev pub invariant-loop-r : goal.invariant-loop-r
invariant-loop-r l = (r : ℕ) → r < l.r → NoneUnsetIn l.image r
