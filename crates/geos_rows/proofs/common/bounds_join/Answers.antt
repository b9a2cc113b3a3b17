use Rattle.std.proofs.Common.{rules}
use Rattle.geos_rows.proofs.Eight.{max_eight}
use Rattle.geos_rows.proofs.common.bounds_join.Goals as goal

pub returns : goal.returns
returns c = cc (max_eight c.args.r.now c.args.s.now (search rules) (search rules))
