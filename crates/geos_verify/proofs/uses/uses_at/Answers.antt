use Rattle.geos_verify.proofs.Fitting.{uses-fit}
use Rattle.geos_verify.proofs.uses.uses_at.Goals as goal

pub returns-clause-fit : goal.returns-clause-fit
returns-clause-fit c = rw c.facts.ensures (uses-fit c.args.instr.now.opcode c.args.instr.now c.requires)
