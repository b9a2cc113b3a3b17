use Rattle.std.proofs.Common.{rules, None}
use Rattle.geos_explain.specs.Lacks.{lacking_pointer}
use Rattle.geos_explain.proofs.Places.{zip2-elements}
use Rattle.geos_explain.proofs.lacks.lacking_pointers.Goals as goal

pub returns : goal.returns
returns c = cc (zip2-elements lacking_pointer None 4 c.args.known.now c.args.wanted.now (search rules) (search rules))
