use Rattle.std.proofs.Common.{◌∙◌}
use Rattle.geos_potentials.proofs.Unpayable.{calls-only}
use Rattle.geos_potentials.proofs.idle.may_touch.Goals as goal

pub returns-in-Call : goal.returns-in-Call
returns-in-Call c = λ image all h. c.touches.ensures ∙ all c.args.counter c.args.i.now.imm c.requires
    ((calls-only image c.args.counter c.args.i.now h).1)

pub returns-in_default : goal.returns-in_default
returns-in_default c = λ image all h. absurd (c.in_default.not-Call ((calls-only image c.args.counter c.args.i.now h).0))
