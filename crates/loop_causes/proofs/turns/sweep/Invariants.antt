use Rattle.loop_causes.specs.Turns.{StayReached}
use Rattle.loop_causes.proofs.turns.sweep.Given as goal

-- so far what the table says of ways stays so
abbrev pub invariant-loop : goal.invariant-loop
invariant-loop l = StayReached l.loops.rows.now l.loops.body.image.now l.loops.body.r l.low l.high l.initial.reached l.reached
