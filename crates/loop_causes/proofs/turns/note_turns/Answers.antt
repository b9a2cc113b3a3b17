use Rattle.std.proofs.Common.{sym, ◌∙◌, subst}
use Rattle.loop_causes.specs.Turns.{AreTurns}
use Rattle.loop_causes.proofs.Onward.{turns-set}
use Rattle.loop_causes.proofs.turns.note_turns.Goals as goal
use Rattle.loop_causes.proofs.turns.note_turns.Goals.{in-Some, in_default}

pub loop-pc-preserved : goal.loop-pc-preserved
loop-pc-preserved c =
    let image = c.args.body.now.image.now in
    let r = c.args.body.now.r in
    elim c.match-find_turn.branch [
      | in-Some w ↦ subst (AreTurns c.args.rows.now image r) (sym (w.turns-is ∙ w.set.ensures))
          (turns-set c.args.rows.now image r c.loop-pc.turns c.loop-pc.pc w.in-Some.turn c.loop-pc.invariant w.in-Some.ensures)
      | in_default w ↦ subst (AreTurns c.args.rows.now image r) (sym w.turns-is) c.loop-pc.invariant
    ]
