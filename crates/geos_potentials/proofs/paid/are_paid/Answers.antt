use Rattle.std.proofs.Common.{◌≡◌, inl, inr, subst, arith}
use Rattle.std.proofs.lemmas.Bool.{cases_lt}
use Rattle.geos_potentials.specs.Constants.{IsPaidAt}
use Rattle.geos_potentials.specs.Numbers.{numbers_of}
use Rattle.geos_potentials.proofs.paid.are_paid.Goals as goal

pub loop-pc-init : goal.loop-pc-init
loop-pc-init c = λ pc within lt. (let body = c.args.body.now in let above = within.above in absurd (omega (arith, above, lt, body.begins)))

pub loop-pc-preserved : goal.loop-pc-preserved
loop-pc-preserved c = λ pc within lt. elim (cases_lt pc c.loop-pc.pc) [
  | inl earlier ↦ c.loop-pc.invariant pc within earlier
  | inr late ↦
      let body = c.args.body.now in
      let same : c.loop-pc.pc ≡ pc = omega (arith, lt, late) in
      subst (IsPaidAt body.image.now body.r c.args.known.now (numbers_of c.args.potentials.now)) same
      (c.is_paid_at.ensures c.if-not-is_paid_at.false)
]

pub returns : goal.returns
returns c = λ is.
    let body = c.args.body.now in record {
      edges = λ pc to branch within leads inside. (c.loop-pc.invariant pc within
          (let below = within.below in omega (arith, below, body.ends, c.loop-pc-test.false))).edges branch to leads inside;
      returns = λ pc point within there. (c.loop-pc.invariant pc within
          (let below = within.below in omega (arith, below, body.ends, c.loop-pc-test.false))).returns point there;
    }
