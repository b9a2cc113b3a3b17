use Rattle.std.proofs.Common.{◌≡◌, ℕ, ◌+◌, ◌*◌, ◌<◌, ◌≤◌, length, Ok, true, false, take, drop}
use Rattle.std.specs.List.{list_all}
use Rattle.std.specs.Vec.{vec_capacity}
use Rattle.geos_image.specs.Legal.{is_instr, is_point, is_row}
use Rattle.geos_image.specs.Reading.{row_at, points_at}
use Rattle.geos_image.specs.Repeats.{AreRepeats}
use Rattle.geos_image.proofs.Items.{with_front}
use Rattle.geos_image.proofs.RepeatLaws.{LastHas}
use Rattle.geos_image.proofs.reader.points.points_at.Given as goal

abbrev pub invariant-loop-pc : goal.invariant-loop-pc
invariant-loop-pc l = (l.at ≡ l.start + 58 * l.pc) × (length l.points.items ≡ l.pc)
    × ((routines instrs : ℕ) → list_all (is_instr routines instrs) (take l.pc l.code) ≡ true
    → list_all (is_point false routines instrs) l.points.items ≡ true)
    × (with_front l.points.items (points_at l.bytes (drop l.pc l.code) l.at) ≡ points_at l.bytes l.code l.start)
    × (l.before ≤ l.at) × (l.before < l.at → row_at false l.bytes l.before ≡ Ok l.row) × (l.before < l.at → is_row false l.row ≡ true)
    × (length l.code ≤ vec_capacity l.points) × AreRepeats l.repeats l.points.items × (l.before < l.at → LastHas l.points.items l.row)
