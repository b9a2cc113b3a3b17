use Rattle.std.specs.Prelude.{◌<◌, ℕ}
use Rattle.geos_asm.specs.Calls.{CallBeforeIn}
use Rattle.geos_asm.proofs.calls.first_calling_on.Given as goal

-- none of the routines so far calls so
abbrev pub invariant-loop-r : goal.invariant-loop-r
invariant-loop-r l = (r : ℕ) → r < l.r → CallBeforeIn l.image r
