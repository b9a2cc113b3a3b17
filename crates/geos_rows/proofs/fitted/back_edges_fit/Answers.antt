use Rattle.std.proofs.Common.{◌+◌, refl, inl, inr, arith}
use Rattle.geos_rows.proofs.Fitting.{back-fits-more}
use Rattle.geos_rows.proofs.fitted.back_edges_fit.Goals.{else-leads_back-via-then-leads_back+else-not-edge_fits, else-leads_back-via-else-leads_back}
use Rattle.geos_rows.proofs.fitted.back_edges_fit.Goals as goal

pub loop-pc-init : goal.loop-pc-init
loop-pc-init c = λ pc within lt.
    let body = c.args.body.now in
    absurd (omega (arith, within.above, body.begins))

pub loop-pc-preserved : goal.loop-pc-preserved
loop-pc-preserved c =
    let body = c.args.body.now in
    let pc = c.loop-pc.pc in
    back-fits-more body.image.now body.r c.args.known.now pc (pc + 1) refl c.loop-pc.invariant (elim c.else-leads_back.branch [
      | else-leads_back-via-then-leads_back+else-not-edge_fits w ↦ inr (w.edge_fits.ensures.fits.0 w.if-not-edge_fits.false)
      | else-leads_back-via-else-leads_back w ↦ inl (c.leads_back.ensures.ahead w.if-leads_back.false)
    ])

pub returns-clause-fit : goal.returns-clause-fit
returns-clause-fit c = λ e pc within.
    let body = c.args.body.now in
    c.loop-pc.invariant pc within (omega (arith, within.below, body.ends, c.loop-pc-test.false))
