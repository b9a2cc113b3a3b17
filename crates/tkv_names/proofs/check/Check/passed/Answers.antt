use Rattle.std.proofs.Common.{◌≡◌, suc, arith}
use Rattle.tkv_names.proofs.Cases.{pass_leads}
use Rattle.tkv_names.proofs.check.Check.passed.Goals as goal

pub returns-in-Some : goal.returns-in-Some
returns-in-Some c there is = pass_leads c.args.self.now.text.now c.args.self.now.items.now c.args.self.now.placed.now c.args.seen c.args.item.now c.in-Some.next there is next
  where
    next : c.in-Some.next ≡ suc c.args.seen.item
    next = omega arith
