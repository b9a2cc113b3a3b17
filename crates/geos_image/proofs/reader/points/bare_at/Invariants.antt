use Rattle.std.proofs.Common.{◌≡◌, ℕ, ◌+◌, ◌*◌, ◌≤◌, length, true, take, drop}
use Rattle.std.specs.List.{list_all}
use Rattle.std.specs.Vec.{vec_len, vec_capacity}
use Rattle.geos_image.specs.Legal.{is_instr, is_point}
use Rattle.geos_image.specs.Parts.{instrs_of}
use Rattle.geos_image.specs.Reading.{bare_points_at}
use Rattle.geos_image.proofs.Items.{with_front}
use Rattle.geos_image.proofs.reader.points.bare_at.Given as goal

abbrev pub invariant-loop-instr : goal.invariant-loop-instr
invariant-loop-instr l = (l.at ≡ l.start + 20 * l.instr-index) × (instrs_of l.points.items ≡ take l.instr-index l.code)
    × ((routines instrs : ℕ) → list_all (is_instr routines instrs) (take l.instr-index l.code) ≡ true
    → list_all (is_point true routines instrs) l.points.items ≡ true)
    × (with_front l.points.items (bare_points_at l.bytes (drop l.instr-index l.code) l.at) ≡ bare_points_at l.bytes l.code l.start)
    × (vec_len l.points ≡ l.instr-index) × (length l.code ≤ vec_capacity l.points)
