use Rattle.std.proofs.Common.{◌≡◌, ℕ, true, inl, inr, subst, arith}
use Rattle.std.proofs.lemmas.Bool.{cases_lt}
use Rattle.geos_potentials.specs.Ranks.{AreNotedFrom, noted_idle}
use Rattle.geos_potentials.proofs.idle.are_noted.Goals as goal

pub loop-pc-init : goal.loop-pc-init
loop-pc-init c = λ pc within lt. (let body = c.args.body.now in let above = within.above in absurd (omega (arith, above, lt, body.begins)))

pub loop-pc-preserved : goal.loop-pc-preserved
loop-pc-preserved c = λ pc within lt. elim (cases_lt pc c.loop-pc.pc) [
  | inl earlier ↦ c.loop-pc.invariant pc within earlier
  | inr late ↦
      let same : c.loop-pc.pc ≡ pc = omega arith in
      subst (AreNotedFrom c.args.body.now.image.now c.args.body.now.r c.args.classes.now) same
      (c.are_noted_from.ensures c.if-not-are_noted_from.false)
]

pub returns : goal.returns
returns c = λ is. record {
  begins = λ k few. subst (λ (n : ℕ). noted_idle c.args.classes.now n k ≡ true) c.args.body.now.begins
      (c.are_noted_first.ensures c.if-not-are_noted_first.false k few);
  each = λ pc within. (let body = c.args.body.now in let below = within.below in
      c.loop-pc.invariant pc within (omega (arith, below, body.ends, c.loop-pc-test.false)));
}
