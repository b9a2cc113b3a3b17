use Rattle.std.proofs.Common.{◌≡◌, ◌<◌, ◌+◌, ◌-◌, ℕ, length, sym, ap, ◌∙◌, subst, arith}
use Rattle.std.proofs.lemmas.List.{length-set}
use Rattle.geos_code.proofs.Bodies.{in-body}
use Rattle.loop_causes.proofs.Longest.{Measured, measured-none, measured-more, some-from, none-passes}
use Rattle.loop_causes.proofs.ahead.pass_by.Goals as goal

pub loop-pc-init : goal.loop-pc-init
loop-pc-init c =
    let body = c.args.body.now in
    (omega (arith, body.some), c.lengths.ensures, measured-none body.image.now body.r body.end c.args.longest.now c.requires.new)

pub loop-pc-preserved : goal.loop-pc-preserved
loop-pc-preserved c =
    let body = c.args.body.now in
    let longest = c.loop-pc.longest in
    let steps = c.longest_from-steps.result in
    let one : c.loop-pc.pc ≡ c.loop-pc.pc - 1 + 1 = omega (arith, c.loop-pc-test.true) in
    let here = in-body body (c.loop-pc.pc - 1) (omega (arith, c.loop-pc-test.true)) (omega (arith, c.loop-pc-test.true)) in
    let within : c.loop-pc.pc - 1 < length longest = omega (arith, c.loop-pc-test.true, c.loop-pc.invariant.1, body.room, body.short) in
    let more = measured-more body.image.now body.r body.end (c.loop-pc.pc - 1) c.loop-pc.pc steps longest c.requires.ahead
    body.ends one here c.loop-pc.invariant.2 c.longest_from-steps.ensures within
    (omega (arith, c.if-from-steps.false, c.from.ensures)) in (
      omega (arith, c.loop-pc-test.true),
      ap length c.set.ensures ∙ length-set longest (c.loop-pc.pc - 1) steps
          ∙ c.loop-pc.invariant.1,
      subst (Measured body.image.now body.r body.end (c.loop-pc.pc - 1)) (sym c.set.ensures) more,
    )

pub returns-then-from-steps-clause-some : goal.returns-then-from-steps-clause-some
returns-then-from-steps-clause-some c = λ is.
    let body = c.args.body.now in
    let one : c.loop-pc.pc ≡ c.loop-pc.pc - 1 + 1 = omega (arith, c.loop-pc-test.true) in
    let here = in-body body (c.loop-pc.pc - 1) (omega (arith, c.loop-pc-test.true)) (omega (arith, c.loop-pc-test.true)) in
    let way = some-from body.image.now body.r body.end (c.loop-pc.pc - 1) c.loop-pc.pc c.longest_from-steps.result
    c.loop-pc.longest c.requires.ahead body.ends one here c.loop-pc.invariant.2 c.longest_from-steps.ensures in
    record {
      ahead = c.requires.ahead;
      from = c.loop-pc.pc - 1;
      branches = way.0;
      steps = c.longest_from-steps.result;
      takes = way.1;
      past = omega (arith, c.if-from-steps.true, c.from.ensures);
    }

pub returns-clause-none : goal.returns-clause-none
returns-clause-none c = λ is.
    let body = c.args.body.now in
    let at : c.loop-pc.pc ≡ body.start = omega (arith, c.loop-pc-test.false, c.loop-pc.invariant.0) in
    none-passes body.image.now body.r body.end c.loop-pc.longest c.requires.ahead body.ends
    (subst (λ (n : ℕ). Measured body.image.now body.r body.end n c.loop-pc.longest) (at ∙ body.begins) c.loop-pc.invariant.2)
