use Rattle.std.proofs.Common.{◌<◌, ap, sym, ◌∙◌, arith}
use Rattle.geos_terms.specs.Chunks.{cost}
use Rattle.geos_terms.proofs.Costs.{cost_is}
use Rattle.geos_terms.proofs.Sums.{cost-zero}
use Rattle.lmem_heap.proofs.chunks.cost.Goals as goal

pub returns-then-n-eq0 : goal.returns-then-n-eq0
returns-then-n-eq0 c = sym (ap cost c.if-n-eq0.true ∙ cost-zero)

pub returns-else-n-eq0 : goal.returns-else-n-eq0
returns-else-n-eq0 c =
    let some : 0 < c.args.n = omega arith in
    omega (arith, cost_is c.args.n some)
