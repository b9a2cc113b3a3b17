use Rattle.std.proofs.Common.{◌*◌, List}
use Rattle.geos_image.specs.declared.row.Row.{Row}
use Rattle.geos_rows.specs.Solutions.{RowsHoldIn}
use Rattle.geos_rows.specs.Alike.{AllComeAlike}
use Rattle.geos_rows.specs.Why.{MeetAlike}
use Rattle.geos_rows.specs.Flow.{FitAhead, AllBelow, Seeded, StaysBefore}
use Rattle.geos_rows.proofs.flow.flow.Given as goal

-- rows have flowed along the edges before pc, with slots as they come there, and what is known before the routine stays
abbrev pub invariant-loop-pc : goal.invariant-loop-pc
invariant-loop-pc l = record {
  flowed : Seeded l.body.image.now l.body.r l.fn.known → FitAhead l.body.image.now l.body.r l.known (2 * l.pc)
      × ((want : List Row) → RowsHoldIn l.body.image.now l.body.r want → AllBelow l.body.image.now l.body.r want l.known);
  alike : MeetAlike l.body.image.now l.body.r → AllComeAlike l.body.image.now l.body.r l.fn.known → AllComeAlike l.body.image.now l.body.r l.known;
  stays : StaysBefore l.body.start l.fn.known l.known;
}
