use Rattle.std.specs.Prelude.{◌≡◌, ◌<◌, ◌≤◌, ℕ, false, Some, slice_get}
use Rattle.geos_image.specs.declared.point.Point.{Point}
use Rattle.geos_asm.specs.Calls.{calls_on}
use Rattle.geos_asm.proofs.calls.calling_on.Given as goal

-- none of the routine's instructions so far calls so
abbrev pub invariant-loop-pc : goal.invariant-loop-pc
invariant-loop-pc l = (pc : ℕ) (point : Point) → l.start ≤ pc → pc < l.pc → slice_get l.image.points pc ≡ Some point
    → calls_on l.r point.instr ≡ false
