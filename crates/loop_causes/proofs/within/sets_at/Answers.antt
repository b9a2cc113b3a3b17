use Rattle.std.proofs.Common.{sym, ◌∙◌, arith}
use Rattle.loop_causes.specs.Causes.{sets_counter}
use Rattle.loop_causes.proofs.Tests.{passes-at}
use Rattle.loop_causes.proofs.within.sets_at.Goals as goal

pub returns : goal.returns
returns c = λ is.
    let body = c.args.body.now in
    passes-at body.image.now c.args.pc c.instr.result.now (omega (arith, body.room)) c.instr.ensures.there
    (λ i. sets_counter c.args.counter i i.opcode) (sym c.sets_counter.ensures ∙ is)
