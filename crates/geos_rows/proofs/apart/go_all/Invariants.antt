use Rattle.geos_rows.proofs.Meeting.{Going}
use Rattle.geos_rows.proofs.apart.go_all.Given as goal

-- what waited before pc has gone on
abbrev pub invariant-loop-pc : goal.invariant-loop-pc
invariant-loop-pc l = Going l.body.image.now l.body.r l.initial.known l.known l.waits l.pc l.further
