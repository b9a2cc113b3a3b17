use Rattle.std.proofs.Common.{rules, false}
use Rattle.geos_explain.specs.Lacks.{lacking_pair}
use Rattle.geos_explain.proofs.Places.{zip2-elements}
use Rattle.geos_explain.proofs.lacks.lacking_pairs.Goals as goal

pub returns : goal.returns
returns c = cc (zip2-elements lacking_pair false 6 c.args.known.now c.args.wanted.now (search rules) (search rules))
