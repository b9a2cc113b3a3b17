use Rattle.tkv_names.proofs.check.Check.instruction_from.Goals as goal

pub loop-preserved : goal.loop-preserved
loop-preserved c x y h = c.in-Some.ensures x y (c.loop.invariant x y h)
