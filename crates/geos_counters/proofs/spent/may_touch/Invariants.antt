use Rattle.geos_counters.proofs.Noting.{IsWhole}
use Rattle.geos_counters.proofs.spent.may_touch.Given as goal

-- the table says what the routines before r touch, by itself
abbrev pub invariant-loop-r : goal.invariant-loop-r
invariant-loop-r l = IsWhole l.image l.table l.r
