use Rattle.std.proofs.Common.{ℕ, ◌<◌}
use Rattle.geos_rows.specs.Flow.{HaveFlowed}
use Rattle.geos_rows.specs.Reached.{FitWhereReached}
use Rattle.geos_rows.proofs.rows.find_all_rows.Given as goal

-- rows have flowed in the routines below r, and fit wherever control reaches
abbrev pub invariant-loop-r : goal.invariant-loop-r
invariant-loop-r l = record {
  flowed : HaveFlowed l.image l.known l.r;
  fit : (q : ℕ) → q < l.r → FitWhereReached l.image q l.known;
}
