use Rattle.std.proofs.Common.{◌≡◌, suc, arith}
use Rattle.tkv_names.proofs.Passing.{is_fork}
use Rattle.tkv_names.proofs.check.Check.fork_at.Goals as goal

pub returns-in_ok-target-in-Do : goal.returns-in_ok-target-in-Do
returns-in_ok-target-in-Do c = is_fork c.args.self.now.placed.now c.args.seen.now.placed c.args.seen.now.level c.in_ok-item.item c.in_ok-item.ensures
    c.in_ok-from-in-Do.from c.in_ok-target-in-Do.target.index c.in_ok-target-in-Do.target.level c.in-Do.is next c.in_ok-target-in-Do.ensures
  where
    next : c.in_ok-from-in-Do.from ≡ suc c.args.seen.now.placed
    next = omega arith
