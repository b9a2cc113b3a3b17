use Rattle.tkv_checks.proofs.walk.+leaves.Given as goal

abbrev pub decreases-leaves : goal.decreases-leaves
decreases-leaves l = l.depth
