use Rattle.geos_rows.proofs.Fitting.{ahead-fits}
use Rattle.geos_rows.proofs.rows.search.Goals as goal

pub returns-then-back_edges_fit-clause-fit : goal.returns-then-back_edges_fit-clause-fit
returns-then-back_edges_fit-clause-fit c = λ e.
    let body = c.args.body.now in
    ahead-fits body.image.now body.r c.flow.new.known (c.flow.ensures.fit c.seed_entry.ensures.seeded c.if-not-flow.false)
    (c.back_edges_fit.ensures.fit c.if-back_edges_fit.true)
