use Rattle.std.proofs.Common.{◌≡◌, ◌≤◌, ◌+◌, ◌-◌, ◌*◌, [], length, true}
use Rattle.geos_image.specs.Parts.{total_count}
use Rattle.geos_image.specs.Legal.{are_routines}
use Rattle.geos_image.specs.Reading.{routines_at}
use Rattle.geos_image.proofs.reader.routines.routines_at.Given as goal

abbrev pub invariant-loop : goal.invariant-loop
invariant-loop l = (l.at ≡ 8 + 100 * l.counter) × (length l.routines.items ≡ l.counter) × (total_count l.routines.items ≤ 4096)
    × (are_routines l.borrows [] l.routines.items ≡ true)
    × (routines_at l.borrows l.bytes (l.count - l.counter) l.at l.routines.items ≡ routines_at l.borrows l.bytes l.count 8 [])
