use Rattle.std.proofs.Common.{◌≡◌, ◌+◌, ◌-◌, ℕ, refl, ◌∙◌, subst, arith}
use Rattle.std.proofs.lemmas.List.{length-map}
use Rattle.geos_image.specs.Parts.{start_of}
use Rattle.geos_potentials.specs.Count.{Counted, StaysFrom, ZerosFrom}
use Rattle.geos_potentials.specs.Numbers.{numbers_of, steps_of, coefficients_of}
use Rattle.geos_code.proofs.Bodies.{in-body}
use Rattle.geos_potentials.proofs.Numbered.{numbers-set}
use Rattle.geos_potentials.proofs.Counts.{counts-begin, counted-more, counted-few, stays-refl, stays-set}
use Rattle.geos_potentials.proofs.count.sweep.Goals as goal

pub loop-pc-init : goal.loop-pc-init
loop-pc-init c =
    let body = c.args.body.now in (
      omega (arith, body.some),
      stays-refl body.end (numbers_of c.args.potentials.now),
      λ want forward holds. counts-begin
          body.image.now body.end want (numbers_of c.args.potentials.now) body.short (length-map c.args.potentials.now steps_of
          ∙ c.lengths.ensures) (length-map c.args.potentials.now coefficients_of ∙ c.lengths.ensures),
    )

pub returns-clause-counts : goal.returns-clause-counts
returns-clause-counts c = λ want forward holds.
    let body = c.args.body.now in
    let image = body.image.now in
    let at : c.loop-pc.pc ≡ body.start = omega (arith, c.loop-pc-test.false, c.loop-pc.invariant.0) in
    let C = subst (λ (n : ℕ). Counted image body.end want (numbers_of c.loop-pc.potentials) n) (at ∙ body.begins)
    (c.loop-pc.invariant.2 want forward holds) in (
      refl,
      subst (λ (n : ℕ). Counted image n want (numbers_of c.loop-pc.potentials) (start_of image.routines body.r)) body.ends C,
      subst (λ (n : ℕ). StaysFrom n (numbers_of c.args.potentials.now) (numbers_of c.loop-pc.potentials)) body.ends c.loop-pc.invariant.1,
    )

pub returns-in_err-next-clause-counts : goal.returns-in_err-next-clause-counts
returns-in_err-next-clause-counts c = λ want forward holds.
    let body = c.args.body.now in
    let one_more : c.loop-pc.pc ≡ c.loop-pc.pc - 1 + 1 = omega (arith, c.loop-pc-test.true) in
    let C = c.loop-pc.invariant.2 want forward holds in
    let none = subst (λ (n : ℕ). ZerosFrom body.image.now body.end n (numbers_of c.loop-pc.potentials).coefficients) one_more C.zero in
    let within = in-body body (c.loop-pc.pc - 1) (omega (arith, c.loop-pc-test.true)) (omega (arith, c.loop-pc-test.true)) in
    absurd (counted-few body.image.now body.r forward want holds (numbers_of c.loop-pc.potentials) body.end
    (c.loop-pc.pc - 1) c.loop-pc.pc body.ends body.room within one_more (c.in_err-next.ensures forward none) C)

pub loop-pc-preserved : goal.loop-pc-preserved
loop-pc-preserved c =
    let body = c.args.body.now in
    let next = c.in_ok-next.next in
    let set = numbers-set c.loop-pc.potentials (c.loop-pc.pc - 1) next in
    let one_more : c.loop-pc.pc ≡ c.loop-pc.pc - 1 + 1 = omega (arith, c.loop-pc-test.true) in
    let within = in-body body (c.loop-pc.pc - 1) (omega (arith, c.loop-pc-test.true)) (omega (arith, c.loop-pc-test.true)) in (
      omega (arith, c.loop-pc-test.true),
      rw (c.set.ensures, set) (stays-set body.end (c.loop-pc.pc - 1) next.constant next.coefficients
          (numbers_of c.args.potentials.now) (numbers_of c.loop-pc.potentials) (let below = within.below in omega (arith, body.ends))
          c.loop-pc.invariant.1),
      λ want forward holds.
          let C = c.loop-pc.invariant.2 want forward holds in
          let none = subst (λ (n : ℕ). ZerosFrom body.image.now body.end n (numbers_of c.loop-pc.potentials).coefficients) one_more C.zero in
          rw (c.set.ensures, set) (counted-more body.image.now body.r forward want holds (numbers_of c.loop-pc.potentials)
          body.end (c.loop-pc.pc - 1) c.loop-pc.pc next body.ends body.room within one_more (c.in_ok-next.ensures forward none) C),
    )

pub returns-clause-stays : goal.returns-clause-stays
returns-clause-stays c = (let body = c.args.body.now in
    subst (λ (n : ℕ). StaysFrom n (numbers_of c.args.potentials.now) (numbers_of c.loop-pc.potentials)) body.ends c.loop-pc.invariant.1)

pub returns-in_err-next-clause-stays : goal.returns-in_err-next-clause-stays
returns-in_err-next-clause-stays c =
    (let body = c.args.body.now in subst (λ (n : ℕ). StaysFrom n (numbers_of c.args.potentials.now) (numbers_of c.loop-pc.potentials))
    body.ends c.loop-pc.invariant.1)
