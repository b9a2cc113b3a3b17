use Rattle.std.proofs.Common.{◌≡◌, suc, arith}
use Rattle.tkv_names.proofs.Cases.{past_leads}
use Rattle.tkv_names.proofs.check.Check.past.Goals as goal

pub returns : goal.returns
returns c there is = past_leads c.args.self.now.text.now c.args.self.now.items.now c.args.self.now.placed.now c.args.seen c.args.item.now c.in_ok-from.from
    c.in_ok-next.next there is from c.in_ok-next.ensures
  where
    from : c.in_ok-from.from ≡ suc c.args.seen.item
    from = omega arith
