use Rattle.std.proofs.Common.{arith}
use Rattle.geos_counters.proofs.Takes.{taken-call, taken-else}
use Rattle.geos_counters.proofs.taken.called_at.Goals as goal

pub returns-in-Call : goal.returns-in-Call
returns-in-Call c =
    let body = c.args.body.now in
    taken-call body.image.now c.args.pc c.instr-i.result.now (omega (arith, body.room)) c.instr-i.ensures.there
    c.routine.result.now c.in-Call.is c.routine.ensures

pub returns-in_default : goal.returns-in_default
returns-in_default c =
    let body = c.args.body.now in
    taken-else body.image.now c.args.pc c.instr-i.result.now (omega (arith, body.room)) c.instr-i.ensures.there c.in_default.not-Call
