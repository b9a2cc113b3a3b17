-- The grants are those of the set.
use Rattle.takhvoi.proofs.grants.excess_of.Goals as goal

pub returns-in-Ok-clause-none : goal.returns-in-Ok-clause-none
returns-in-Ok-clause-none c = rw c.effects_in.ensures at c.in-Ok.ensures.only

pub returns-in-Err-clause-first : goal.returns-in-Err-clause-first
returns-in-Err-clause-first c = rw c.effects_in.ensures at c.in-Err.ensures.first
