use Rattle.std.proofs.Common.{Some, true, arith}
use Rattle.std.proofs.lemmas.Bool.{lt-leb}
use Rattle.geos_code.proofs.Back.{read-ahead, ahead-alone}
use Rattle.geos_code.proofs.edges.leads_back.Goals as goal

pub returns-in-Some-clause-none : goal.returns-in-Some-clause-none
returns-in-Some-clause-none c = λ forward.
    let body = c.args.body.now in
    let lead = c.in-Some.lead in
    let found = read-ahead body.image.now body.end c.args.pc true (omega (arith, body.room)) lead
    (ahead-alone body forward c.args.pc true (Some lead) c.requires.above c.requires.below c.in-Some.ensures.value) in
    lt-leb lead.to c.args.pc found.4
