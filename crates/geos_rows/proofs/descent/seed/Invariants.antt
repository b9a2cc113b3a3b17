use Rattle.geos_rows.specs.Alike.{AllComeAlike}
use Rattle.geos_rows.specs.Why.{MeetAlike}
use Rattle.geos_rows.proofs.descent.seed.Given as goal

-- control comes so with what is known at first
abbrev pub invariant-loop-pc : goal.invariant-loop-pc
invariant-loop-pc l = MeetAlike l.body.image.now l.body.r → AllComeAlike l.body.image.now l.body.r l.known → AllComeAlike l.body.image.now l.body.r l.from
