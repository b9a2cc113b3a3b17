use Rattle.tkv_names.proofs.routine.+parameters_of.Given as goal

abbrev pub decreases-parameters_of : goal.decreases-parameters_of
decreases-parameters_of l = l.count
