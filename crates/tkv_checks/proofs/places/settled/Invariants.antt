use Rattle.std.proofs.Common.{◌≡◌}
use Rattle.tkv_meaning.specs.Code.{Comes}
use Rattle.tkv_checks.proofs.places.settled.Given as goal

abbrev pub invariant-loop : goal.invariant-loop
invariant-loop l = Comes l.image (λ q. q ≡ l.here) l.fn.pc
