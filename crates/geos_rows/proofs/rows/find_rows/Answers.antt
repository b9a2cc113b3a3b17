use Rattle.geos_rows.proofs.Held.{fit-alike}
use Rattle.geos_rows.proofs.rows.find_rows.Goals as goal

pub returns-clause-met : goal.returns-clause-met
returns-clause-met c = λ r lt. fit-alike c.args.image.now r c.find_all_rows.new.known (c.in_ok-routines.ensures.fit r lt)
