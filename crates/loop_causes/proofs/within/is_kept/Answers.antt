use Rattle.std.proofs.Common.{arith}
use Rattle.loop_causes.proofs.Kept.{kept-any}
use Rattle.loop_causes.proofs.within.is_kept.Goals as goal

pub returns-then-at-body-clause-kept : goal.returns-then-at-body-clause-kept
returns-then-at-body-clause-kept c = λ is.
    let body = c.args.body.now in
    let begins = body.begins in
    let ends = body.ends in
    let way = c.lead.ensures is in
    kept-any body.image.now body.r c.args.counter c.args.at c.args.but c.args.to
    (record { behind = record { above = omega arith; below = omega arith }; branches = way.0; trail = way.1 })
