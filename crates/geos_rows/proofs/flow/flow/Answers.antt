use Rattle.std.proofs.Common.{◌+◌, ◌*◌, ◌≤◌, ◌<◌, ℕ, false, length, sym, subst, ◌∙◌, arith, refl}
use Rattle.std.proofs.lemmas.Bool.{false≢true}
use Rattle.geos_verify.proofs.Places.{item_at}
use Rattle.geos_image.specs.Parts.{start_of}
use Rattle.geos_code.specs.Code.{instrs_of}
use Rattle.geos_rows.specs.Flow.{FitAhead}
use Rattle.geos_code.proofs.Bodies.{in-body}
use Rattle.geos_code.proofs.Ends.{code-length}
use Rattle.geos_rows.proofs.Flows.{spreads-below, fit-more, below-more}
use Rattle.geos_rows.proofs.Seeding.{seeds-fit, seeds-below}
use Rattle.geos_rows.proofs.flow.flow.Goals as goal

pub loop-pc-init : goal.loop-pc-init
loop-pc-init c =
    let body = c.args.body.now in
    let image = body.image.now in
    let routine = item_at image.routines body.r body.there in
    record {
      flowed = λ seeded. (
        subst (λ (n : ℕ). FitAhead image body.r c.args.known.now (2 * n)) (sym body.begins) (seeds-fit image body.r c.args.known.now seeded),
        λ want holds. seeds-below image body.r routine.0 want c.args.known.now routine.1 holds seeded,
      );
      alike = λ meet all. all;
      stays = λ k lt. refl;
    }

pub returns-then-not-spread_ahead-clause-below : goal.returns-then-not-spread_ahead-clause-below
returns-then-not-spread_ahead-clause-below c = λ seeded want holds.
    let body = c.args.body.now in
    let image = body.image.now in
    let pc = c.loop-pc.pc in
    let so_far = c.loop-pc.invariant.flowed seeded in
    let step = spreads-below image body.r (omega (arith, code-length image, body.ends, body.room)) c.loop-pc.known
    c.spread_ahead.new.known pc false (in-body body pc c.loop-pc.auto.pc c.loop-pc-test.true) so_far.0.len
    want holds (so_far.1 want holds) c.spread_ahead.result c.spread_ahead.ensures.spreads in
    absurd (false≢true (sym c.if-not-spread_ahead.true ∙ step.0))

pub returns-then-not-spread_ahead-2-clause-below : goal.returns-then-not-spread_ahead-2-clause-below
returns-then-not-spread_ahead-2-clause-below c = λ seeded want holds.
    let body = c.args.body.now in
    let image = body.image.now in
    let pc = c.loop-pc.pc in
    let so_far = c.loop-pc.invariant.flowed seeded in
    let step = below-more image body.r (omega (arith, code-length image, body.ends, body.room)) c.loop-pc.known
    c.spread_ahead.new.known c.spread_ahead-in-loop-pc.new.known pc (pc + 1) (in-body body pc c.loop-pc.auto.pc c.loop-pc-test.true) refl
    c.spread_ahead.result c.spread_ahead-in-loop-pc.result c.spread_ahead.ensures.spreads c.spread_ahead-in-loop-pc.ensures.spreads
    so_far.0 want holds (so_far.1 want holds) in
    absurd (false≢true (sym c.if-not-spread_ahead-2.true ∙ step.1))

pub loop-pc-preserved : goal.loop-pc-preserved
loop-pc-preserved c =
    let body = c.args.body.now in
    let image = body.image.now in
    let pc = c.loop-pc.pc in
    let within = in-body body pc c.loop-pc.auto.pc c.loop-pc-test.true in
    let small : start_of image.routines (body.r + 1) ≤ length (instrs_of image) = omega (arith, code-length image, body.ends, body.room) in
    record {
      flowed = λ seeded.
          let so_far = c.loop-pc.invariant.flowed seeded in (
            fit-more image body.r small c.loop-pc.known c.spread_ahead.new.known c.spread_ahead-in-loop-pc.new.known pc (pc + 1) within refl
                c.spread_ahead.result c.spread_ahead-in-loop-pc.result c.spread_ahead.ensures.spreads
                c.spread_ahead-in-loop-pc.ensures.spreads so_far.0 c.if-not-spread_ahead.false c.if-not-spread_ahead-2.false,
            λ want holds. (below-more image body.r small c.loop-pc.known c.spread_ahead.new.known c.spread_ahead-in-loop-pc.new.known pc
                (pc + 1) within refl
                c.spread_ahead.result c.spread_ahead-in-loop-pc.result c.spread_ahead.ensures.spreads
                c.spread_ahead-in-loop-pc.ensures.spreads so_far.0 want holds (so_far.1 want holds)).2,
          );
      alike = λ meet all. (
          let along = c.spread_ahead.ensures.alike meet (c.loop-pc.invariant.alike meet all) in
          (c.spread_ahead-in-loop-pc.ensures.alike meet along.1).1
          );
      stays = λ k lt. (
          let before : k < pc = omega (arith, lt, c.loop-pc.auto.pc) in
          c.spread_ahead-in-loop-pc.ensures.stays k before ∙ c.spread_ahead.ensures.stays k before ∙ c.loop-pc.invariant.stays k lt
          );
    }

-- if the slots of any two paths to one pc differ in marks at most, rows have joins
pub returns-then-not-spread_ahead-clause-alike : goal.returns-then-not-spread_ahead-clause-alike
returns-then-not-spread_ahead-clause-alike c = λ meet all.
    let along = c.spread_ahead.ensures.alike meet (c.loop-pc.invariant.alike meet all) in
    absurd (false≢true (sym c.if-not-spread_ahead.true ∙ along.0))

pub returns-then-not-spread_ahead-2-clause-alike : goal.returns-then-not-spread_ahead-2-clause-alike
returns-then-not-spread_ahead-2-clause-alike c = λ meet all.
    let along = c.spread_ahead.ensures.alike meet (c.loop-pc.invariant.alike meet all) in
    let aside = c.spread_ahead-in-loop-pc.ensures.alike meet along.1 in
    absurd (false≢true (sym c.if-not-spread_ahead-2.true ∙ aside.0))

-- what is known before the routine stays, also where rows have no join
pub returns-then-not-spread_ahead-clause-stays : goal.returns-then-not-spread_ahead-clause-stays
returns-then-not-spread_ahead-clause-stays c = λ k lt. c.spread_ahead.ensures.stays k (omega (arith, lt, c.loop-pc.auto.pc))
    ∙ c.loop-pc.invariant.stays k lt

pub returns-then-not-spread_ahead-2-clause-stays : goal.returns-then-not-spread_ahead-2-clause-stays
returns-then-not-spread_ahead-2-clause-stays c = λ k lt.
    let before : k < c.loop-pc.pc = omega (arith, lt, c.loop-pc.auto.pc) in
    c.spread_ahead-in-loop-pc.ensures.stays k before ∙ c.spread_ahead.ensures.stays k before ∙ c.loop-pc.invariant.stays k lt
