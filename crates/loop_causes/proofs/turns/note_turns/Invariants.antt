use Rattle.loop_causes.specs.Turns.{AreTurns}
use Rattle.loop_causes.proofs.turns.note_turns.Given as goal

abbrev pub invariant-loop-pc : goal.invariant-loop-pc
invariant-loop-pc l = AreTurns l.rows l.body.image.now l.body.r l.turns
