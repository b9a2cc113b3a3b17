use Rattle.loop_causes.specs.Turns.{StayReached}
use Rattle.loop_causes.proofs.turns.go_all.Given as goal

-- so far what the table says of ways stays so
abbrev pub invariant-loop-pc : goal.invariant-loop-pc
invariant-loop-pc l = StayReached l.loops.rows.now l.loops.body.image.now l.loops.body.r l.low l.high l.initial.reached l.reached
