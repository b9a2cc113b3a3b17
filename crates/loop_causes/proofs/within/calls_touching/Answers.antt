use Rattle.std.proofs.Common.{sym, ◌∙◌, arith}
use Rattle.loop_causes.proofs.Tests.{calls-at}
use Rattle.loop_causes.proofs.within.calls_touching.Goals as goal

pub returns-in-Call : goal.returns-in-Call
returns-in-Call c = λ is.
    let body = c.args.body.now in
    let i = c.instr-i.result.now in
    calls-at body.image.now c.args.pc i (omega (arith, body.room)) c.instr-i.ensures.there c.args.counter c.in-Call.is
    (c.requires.touched.certain c.args.counter i.imm (sym c.touches.ensures ∙ is))
