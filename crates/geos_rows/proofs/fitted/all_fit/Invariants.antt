use Rattle.geos_rows.proofs.Fitting.{FitBefore}
use Rattle.geos_rows.proofs.fitted.all_fit.Given as goal

-- the edges of the instructions before pc fit
abbrev pub invariant-loop-pc : goal.invariant-loop-pc
invariant-loop-pc l = FitBefore l.body.image.now l.body.r l.known l.pc
