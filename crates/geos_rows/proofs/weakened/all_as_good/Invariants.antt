use Rattle.std.proofs.Common.{◌≡◌, ◌<◌, ℕ, Some}
use Rattle.std.specs.Prelude.{slice_get}
use Rattle.geos_image.specs.declared.point.Point.{Point}
use Rattle.geos_image.specs.declared.row.Row.{Row}
use Rattle.geos_code.specs.Code.{IsPcOf}
use Rattle.geos_code.specs.Known.{known_at, clean, row_of}
use Rattle.geos_rows.specs.Unreached.{IsAsGood}
use Rattle.geos_rows.proofs.weakened.all_as_good.Given as goal

-- they are as good at the places before pc
abbrev pub invariant-loop-pc : goal.invariant-loop-pc
invariant-loop-pc l = (pc : ℕ) (row : Row) (point : Point) → IsPcOf l.body.image.now l.body.r pc → pc < l.pc
    → known_at l.found pc ≡ Some row → slice_get l.body.image.now.points pc ≡ Some point
    → IsAsGood l.body.image.now l.body.r (clean row) (row_of (known_at l.weaker pc)) point.instr
