use Rattle.loop_causes.proofs.Longest.{over-some}
use Rattle.loop_causes.proofs.ahead.longest_over.Goals as goal

pub returns-in-Some-clause-value : goal.returns-in-Some-clause-value
returns-in-Some-clause-value c =
    let body = c.args.body.now in
    over-some body.image.now body.r c.args.pc c.in-Some.edge.to c.at.result c.args.branch c.args.longest.now
    c.in-Some.ensures.leads c.in-Some.ensures.stays (c.at.ensures 0)
