use Rattle.std.proofs.Common.{rules}
use Rattle.geos_explain.specs.Lacks.{lacking_bound}
use Rattle.geos_explain.proofs.Places.{zip2-elements}
use Rattle.geos_explain.proofs.lacks.lacking_bounds.Goals as goal

pub returns : goal.returns
returns c = cc (zip2-elements lacking_bound 0 8 c.args.known.now c.args.wanted.now (search rules) (search rules))
