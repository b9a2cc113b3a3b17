use Rattle.geos_rows.proofs.Fitting.{BackFitBefore}
use Rattle.geos_rows.proofs.fitted.back_edges_fit.Given as goal

-- the edges to targets of the instructions before pc lead ahead or fit
abbrev pub invariant-loop-pc : goal.invariant-loop-pc
invariant-loop-pc l = BackFitBefore l.body.image.now l.body.r l.known l.pc
