use Rattle.std.proofs.Common.{◌<◌, IfSome}
use Rattle.geos_diagnosis.proofs.ring.most_paid.Given as goal

abbrev pub invariant-loop-pc : goal.invariant-loop-pc
invariant-loop-pc l = IfSome l.found (λ pc. pc < l.body.end)
