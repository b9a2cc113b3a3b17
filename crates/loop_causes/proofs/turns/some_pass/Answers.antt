use Rattle.std.proofs.Common.{◌<◌, ◌+◌, ◌-◌, None, sym, arith}
use Rattle.geos_counters.specs.Steps.{most_steps, taken_at}
use Rattle.geos_code.proofs.Bodies.{in-body}
use Rattle.loop_causes.proofs.Onward.{passes}
use Rattle.loop_causes.proofs.turns.some_pass.Goals as goal

pub returns-then-from-capped : goal.returns-then-from-capped
returns-then-from-capped c = λ is.
    let body = c.args.body.now in
    let pc = c.loop-pc.pc in
    let reach = c.in-Some.reach in
    let past : most_steps < reach.steps + taken_at body.image.now pc =
    omega (arith, c.from.ensures, c.capped.ensures.less, c.taken_at.ensures.value) in
    passes c.args.rows.now body.image.now body.r body.start (body.end - 1) pc reach (in-body body pc c.loop-pc.auto.pc c.loop-pc-test.true)
    (c.requires pc reach c.loop-pc.auto.pc (omega (arith, c.loop-pc-test.true)) (sym (c.in-Some.ensures None))) past
