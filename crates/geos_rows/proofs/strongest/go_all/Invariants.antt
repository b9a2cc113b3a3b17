use Rattle.geos_rows.specs.Reached.{AreAtMostAny}
use Rattle.geos_rows.proofs.strongest.go_all.Given as goal

-- no rows that hold are stronger
abbrev pub invariant-loop : goal.invariant-loop
invariant-loop l = AreAtMostAny l.body.image.now l.body.r l.rows
