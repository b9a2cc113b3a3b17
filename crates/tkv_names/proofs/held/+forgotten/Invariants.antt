use Rattle.tkv_names.proofs.held.+forgotten.Given as goal

abbrev pub decreases-forgotten : goal.decreases-forgotten
decreases-forgotten l = l.below
