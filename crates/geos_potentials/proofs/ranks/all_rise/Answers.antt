use Rattle.std.proofs.Common.{◌≡◌, ◌<◌, ℕ, Bool, true, false, inl, inr, subst, arith}
use Rattle.std.specs.Prelude.{slice_index}
use Rattle.std.proofs.lemmas.Bool.{cases_lt}
use Rattle.geos_counters.specs.Idle.{LeadsIdle}
use Rattle.geos_potentials.proofs.ranks.all_rise.Goals as goal

pub loop-pc-init : goal.loop-pc-init
loop-pc-init c = λ pc to branch within lt lead. (let body = c.args.body.now in let above = within.above in
    absurd (omega (arith, above, lt, body.begins)))

pub loop-pc-preserved : goal.loop-pc-preserved
loop-pc-preserved c = λ pc to branch within lt. elim (cases_lt pc c.loop-pc.pc) [
  | inl earlier ↦ c.loop-pc.invariant pc to branch within earlier
  | inr late ↦
      let same : c.loop-pc.pc ≡ pc = omega arith in
      subst (λ (n : ℕ). LeadsIdle c.args.body.now.image.now c.args.body.now.r n branch to
      → slice_index c.args.ranks.now n < slice_index c.args.ranks.now to) same (here branch to)
]
  where
    here : (branch : Bool) (to : ℕ) → LeadsIdle c.args.body.now.image.now c.args.body.now.r c.loop-pc.pc branch to
        → slice_index c.args.ranks.now c.loop-pc.pc < slice_index c.args.ranks.now to
    here false to lead = c.rises.ensures c.if-not-rises.false to lead
    here true to lead = c.rises-else-not-rises.ensures c.if-not-rises-2.false to lead

pub returns : goal.returns
returns c = λ is pc to branch within lead. (let body = c.args.body.now in let below = within.below in
    c.loop-pc.invariant pc to branch within (omega (arith, below, body.ends, c.loop-pc-test.false)) lead)
