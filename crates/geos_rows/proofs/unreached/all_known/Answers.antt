use Rattle.std.proofs.Common.{None, ◌∙◌}
use Rattle.geos_code.proofs.Bodies.{in-body}
use Rattle.geos_rows.proofs.unreached.all_known.Goals as goal

pub returns-in_default : goal.returns-in_default
returns-in_default c = λ e all.
    let there = all c.loop-pc.pc (in-body c.args.body.now c.loop-pc.pc c.loop-pc.auto.pc c.loop-pc-test.true) in
    absurd (c.in_default.not-Some there.0 (c.at.ensures None ∙ there.1))
