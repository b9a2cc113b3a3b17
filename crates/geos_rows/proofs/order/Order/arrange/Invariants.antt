use Rattle.std.proofs.Common.{◌-◌}
use Rattle.geos_rows.specs.Turns.{TurnsWithin}
use Rattle.geos_rows.proofs.order.Order.arrange.Given as goal

-- turns are among as many as there are places
abbrev pub invariant-loop-pc : goal.invariant-loop-pc
invariant-loop-pc l = TurnsWithin (l.body.end - l.body.start) l.fn.self l.self

abbrev pub invariant-loop : goal.invariant-loop
invariant-loop l = TurnsWithin (l.body.end - l.body.start) l.fn.self l.self
