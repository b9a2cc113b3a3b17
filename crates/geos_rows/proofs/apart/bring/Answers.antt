use Rattle.std.proofs.Common.{ℕ, None, sym, subst}
use Rattle.geos_rows.specs.Why.{IsComing}
use Rattle.geos_rows.proofs.Came.{comes-to, comes-along}
use Rattle.geos_rows.proofs.apart.bring.Goals as goal

pub returns-clause-by : goal.returns-clause-by
returns-clause-by c =
    let body = c.args.body.now in
    let inside = c.in_ok-lead.ensures.inside in
    let before = c.in_ok-before.before in
    let comes = comes-to body.image.now body.r c.args.pc before (c.requires.come c.args.pc before (sym (c.in_ok-before.ensures None))) in
    comes-along body.image.now body.r c.args.pc c.args.branch c.in_ok-lead.lead before.row c.after-row.result inside.from
    inside.way comes c.in_ok-lead.ensures.leads c.in_ok-lead.ensures.stays c.after-row.ensures

pub emptied_along-requires-clause-came : goal.emptied_along-requires-clause-came
emptied_along-requires-clause-came c =
    let body = c.args.body.now in
    let before = c.in_ok-before.before in
    subst (λ (n : ℕ). IsComing body.image.now body.r n before) (sym c.in_ok-lead.ensures.inside.from)
    (c.requires.come c.args.pc before (sym (c.in_ok-before.ensures None)))
