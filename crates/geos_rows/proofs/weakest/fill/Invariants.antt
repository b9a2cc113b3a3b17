use Rattle.geos_rows.specs.Weakest.{Weakens}
use Rattle.geos_rows.proofs.weakest.fill.Given as goal

-- the weakest rows are known before pc
abbrev pub invariant-loop-pc : goal.invariant-loop-pc
invariant-loop-pc l = Weakens l.body.start l.pc l.comings l.fn.known l.known
