use Rattle.tkv_names.proofs.name.+same_letters.Given as goal

abbrev pub decreases-same_letters : goal.decreases-same_letters
decreases-same_letters l = l.most
