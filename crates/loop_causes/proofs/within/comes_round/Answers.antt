use Rattle.std.proofs.Common.{None}
use Rattle.loop_causes.proofs.Kept.{comes-any}
use Rattle.loop_causes.proofs.within.comes_round.Goals as goal

pub returns : goal.returns
returns c = λ is. comes-any c.args.body.now.image.now c.args.body.now.r c.args.counter None c.args.from c.args.to (c.lead.ensures is)
