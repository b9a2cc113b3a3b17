use Rattle.std.proofs.Common.{◌≡◌, ◌+◌, ◌-◌, ◌*◌, ◌<◌, ◌≤◌, length, Ok, true}
use Rattle.std.specs.List.{list_all}
use Rattle.std.specs.Vec.{vec_capacity}
use Rattle.geos_image.specs.Legal.{is_row}
use Rattle.geos_image.specs.Reading.{row_at, items_at}
use Rattle.geos_image.specs.Repeats.{AreAlike}
use Rattle.geos_image.proofs.Items.{with_front}
use Rattle.geos_image.proofs.RepeatLaws.{LastIs}
use Rattle.geos_image.proofs.reader.points.rows_at.Given as goal

abbrev pub invariant-loop-k : goal.invariant-loop-k
invariant-loop-k l = (l.at ≡ l.start + 38 * l.k) × (length l.rows.items ≡ l.k) × (list_all (is_row true) l.rows.items ≡ true)
    × (with_front l.rows.items (items_at (row_at true l.bytes) 38 (l.count - l.k) l.at) ≡ items_at (row_at true l.bytes) 38 l.count l.start)
    × (l.before ≤ l.at) × (l.before < l.at → row_at true l.bytes l.before ≡ Ok l.row) × (l.before < l.at → is_row true l.row ≡ true)
    × (l.count ≤ vec_capacity l.rows) × AreAlike l.alike l.rows.items × (l.before < l.at → LastIs l.rows.items l.row)
