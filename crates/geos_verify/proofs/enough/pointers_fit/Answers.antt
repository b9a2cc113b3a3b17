use Rattle.std.proofs.Common.{None, rules, arith}
use Rattle.std.proofs.lemmas.Grind.{common_steps}
use Rattle.geos_verify.specs.Rows.{pointer_fits}
use Rattle.geos_verify.proofs.Four.{all2_four}
use Rattle.geos_verify.proofs.enough.pointers_fit.Goals as goal

pub returns-then-leads_on-3 : goal.returns-then-leads_on-3
returns-then-leads_on-3 c =
    let by_index = all2_four pointer_fits c.args.r.now c.args.s.now None None (search rules) (search rules) in
    grind (arith, common_steps, by_index)
