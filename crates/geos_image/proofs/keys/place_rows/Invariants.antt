use Rattle.std.proofs.Common.{◌≡◌, ◌≤◌, ◌++◌, length, take, drop}
use Rattle.geos_image.specs.Keys.{with_rows}
use Rattle.geos_image.proofs.keys.place_rows.Given as goal

abbrev pub invariant-loop-pc : goal.invariant-loop-pc
invariant-loop-pc l = (l.next ≤ l.pc) × (length l.points.items ≡ length l.initial.points.items)
    × (take l.pc l.points.items ++ with_rows (drop l.pc l.flags) (drop l.pc l.points.items) (drop l.next l.rows) ≡ with_rows
    l.flags l.initial.points.items l.rows)
