use Rattle.loop_causes.proofs.steps.least_steps_pass.Goals as goal

pub returns : goal.returns
returns c = λ is. (c.in_ok-nothing.nothing, c.in_ok-nothing.ensures, c.in_ok-passes.ensures is)
