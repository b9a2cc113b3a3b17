use Rattle.std.proofs.Common.{◌≡◌, inl, inr, subst, arith}
use Rattle.std.proofs.lemmas.Bool.{cases_lt}
use Rattle.geos_code.specs.Code.{TargetAhead}
use Rattle.loop_causes.proofs.back.find_back.Goals as goal

pub loop-from-init : goal.loop-from-init
loop-from-init c = λ pc within lt to i there edge.
    let body = c.args.body.now in
    absurd (omega (arith, within.above, body.begins))

pub loop-from-preserved : goal.loop-from-preserved
loop-from-preserved c = λ pc within lt.
    let body = c.args.body.now in
    let from = c.loop-from.from in
    elim (cases_lt pc from) [
      | inl earlier ↦ c.loop-from.invariant pc within earlier
      | inr late ↦
          let same : from ≡ pc = omega arith in
          subst (TargetAhead body.image.now body.r) same c.in_default.ensures.none
    ]
