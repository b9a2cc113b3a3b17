use Rattle.geos_potentials.proofs.units.Units.carry.Goals as goal

pub loop-pc-preserved : goal.loop-pc-preserved
loop-pc-preserved c = λ before. c.go_back_from.ensures.wanted (c.loop-pc.invariant before)
