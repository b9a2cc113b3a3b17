use Rattle.geos_text.specs.Words.{words}
use Rattle.geos_scripts.proofs.Walked.{keeping-found}
use Rattle.geos_scripts.proofs.keeping.fault_of.Goals as goal

pub returns-in-None : goal.returns-in-None
returns-in-None c =
    keeping-found c.args.names.now.uses c.args.image.now (words c.args.line.now) c.keeping_fault.result c.in-None.ensures
    (c.keeping_fault.ensures c.args.image.now)
