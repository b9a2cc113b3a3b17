-- The span is as long as its reference.
use Rattle.std.proofs.Common.{◌≡◌, ◌≤◌, refl, arith}
use Rattle.takhvoi.proofs.Notes.{reads-device}
use Rattle.takhvoi.proofs.Steps.{given-refused, given-span}
use Rattle.takhvoi.proofs.items.ilock.Goals as goal

pub returns-in-Ok-clause-done : goal.returns-in-Ok-clause-done
returns-in-Ok-clause-done c =
    let gives = c.in-Ok.ensures.gives in
    let told = given-span c.ilock.new.self.core c.in-Ok.span gives.0 (λ ref. c.in-Ok.span.len ≡ ref.len) gives.2 (λ ref stands. stands.len) in
    (refl, refl, (λ _. (reads-device _ _ c.in-Ok.ensures.device.reads, (gives.0, gives.1, told.0, told.1))), λ past. absurd (past-none past))
  where
    past-none : 100 ≤ 0 → ⊥
    past-none h = omega arith

pub returns-in-Err-clause-done : goal.returns-in-Err-clause-done
returns-in-Err-clause-done c =
    let gives = c.in-Err.ensures.gives in
    let told = given-refused c.ilock.new.self.core c.in-Err.refusal gives.0 c.number.result (λ ref. c.args.told.now ≡ ref.len) gives.2
    c.number.ensures.number in (
      refl,
      refl,
      (λ _. (reads-device _ _ c.in-Err.ensures.device.reads, (gives.0, gives.1, told.0, told.1))),
      λ past. absurd (omega (arith, past, c.number.ensures.small)),
    )
