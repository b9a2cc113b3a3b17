use Rattle.std.proofs.Common.{◌≡◌, ◌+◌, ◌-◌, ◌*◌, ◌≤◌, length, true}
use Rattle.std.specs.List.{list_all}
use Rattle.std.specs.Vec.{vec_capacity}
use Rattle.geos_image.specs.Legal.{is_instr}
use Rattle.geos_image.specs.Reading.{instr_at, items_at}
use Rattle.geos_image.proofs.Items.{with_front}
use Rattle.geos_image.proofs.reader.points.instrs_at.Given as goal

abbrev pub invariant-loop : goal.invariant-loop
invariant-loop l = (l.at ≡ l.start + 10 * l.counter) × (length l.code.items ≡ l.counter)
    × (list_all (is_instr l.routines l.instrs) l.code.items ≡ true)
    × (with_front l.code.items (items_at (instr_at l.routines l.instrs l.bytes) 10 (l.instrs - l.counter) l.at) ≡ items_at
    (instr_at l.routines l.instrs l.bytes) 10 l.instrs l.start)
    × (l.instrs ≤ vec_capacity l.code)
