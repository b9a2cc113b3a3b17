use Rattle.geos_verify.proofs.Fitting.{yields-fit}
use Rattle.geos_verify.proofs.bounds.result_at.Goals as goal

pub returns-clause-fit : goal.returns-clause-fit
returns-clause-fit c = rw c.facts.ensures (yields-fit c.args.i.now.opcode c.args.i.now c.requires)
