use Rattle.std.proofs.Common.{◌≡◌, ◌++◌, length, take, drop}
use Rattle.geos_image.specs.Keys.{kept_rows}
use Rattle.geos_image.proofs.keys.keep_rows.Given as goal

abbrev pub invariant-loop-pc : goal.invariant-loop-pc
invariant-loop-pc l = (length l.points.items ≡ length l.initial.points.items)
    × (take l.pc l.points.items ++ kept_rows (drop l.pc l.flags) (drop l.pc l.points.items) ≡ kept_rows l.flags l.initial.points.items)
