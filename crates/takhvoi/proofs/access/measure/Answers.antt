-- The span is as long as its reference.
use Rattle.std.proofs.Common.{◌≡◌, ◌≤◌, refl, arith}
use Rattle.takhvoi.proofs.Steps.{given-span}
use Rattle.takhvoi.proofs.access.measure.Goals as goal

pub returns-in-Ok : goal.returns-in-Ok
returns-in-Ok c =
    let gives = c.in-Ok.ensures.gives in
    let told = given-span c.args.system.now.kernel.core c.in-Ok.span gives.0 (λ ref. c.in-Ok.span.len ≡ ref.len) gives.2 (λ ref stands. stands.len) in
    (refl, refl, (λ _. (refl, (gives.0, gives.1, told.0, told.1))), λ past. absurd (past-none past))
  where
    past-none : 100 ≤ 0 → ⊥
    past-none h = omega arith
