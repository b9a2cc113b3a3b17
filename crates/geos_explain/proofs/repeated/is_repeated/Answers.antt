use Rattle.geos_explain.proofs.Repeating.{repeated-none}
use Rattle.geos_explain.proofs.repeated.is_repeated.Goals as goal

pub returns-in-None : goal.returns-in-None
returns-in-None c = repeated-none c.args.image.now c.args.refused.now c.args.pc c.in-None.ensures
