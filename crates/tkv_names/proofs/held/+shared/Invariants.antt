use Rattle.tkv_names.proofs.held.+shared.Given as goal

abbrev pub decreases-shared : goal.decreases-shared
decreases-shared l = l.below
