use Rattle.geos_potentials.proofs.count.count_loops.Goals as goal

pub returns-in-Err-clause-reason : goal.returns-in-Err-clause-reason
returns-in-Err-clause-reason c = c.in-Err.ensures.way c.requires
