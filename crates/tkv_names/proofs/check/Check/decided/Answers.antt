use Rattle.std.proofs.Common.{◌<◌, arith}
use Rattle.tkv_names.proofs.check.Check.decided.Goals as goal

pub returns : goal.returns
returns c there is = c.branches.ensures c.args.item.now there is range c.in_ok-fork.ensures c.in_ok-same.ensures
  where
    range : c.args.item.now.a < 6
    range = omega arith
