use Rattle.loop_causes.proofs.turns.sweep.Goals as goal

pub loop-preserved : goal.loop-preserved
loop-preserved c = λ begin all. c.go_all.ensures begin (c.loop.invariant begin all)
