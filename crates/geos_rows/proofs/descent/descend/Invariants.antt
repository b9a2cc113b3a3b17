use Rattle.std.proofs.Common.{true}
use Rattle.geos_rows.specs.Alike.{StaysAlike}
use Rattle.geos_rows.proofs.descent.descend.Given as goal

-- control comes so with what is known
abbrev pub invariant-loop : goal.invariant-loop
invariant-loop l = StaysAlike l.body.image.now l.body.r l.fn.known l.known true
