use Rattle.std.proofs.Common.{◌+◌, arith}
use Rattle.loop_causes.proofs.Longest.{both-over}
use Rattle.loop_causes.proofs.ahead.longest_from.Goals as goal

pub returns : goal.returns
returns c =
    let body = c.args.body.now in
    both-over body.image.now body.r c.args.pc c.args.longest.now c.longest_over-along.result c.longest_over-branching.result
    (c.taken_at.result + c.max.result) (omega (arith, c.taken_at.ensures.value, c.max.ensures))
    c.longest_over-along.ensures.value c.longest_over-branching.ensures.value
