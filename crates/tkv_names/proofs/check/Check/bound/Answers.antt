use Rattle.std.proofs.Common.{◌≡◌, suc, arith}
use Rattle.tkv_names.proofs.Cases.{set_leads}
use Rattle.tkv_names.proofs.check.Check.bound.Goals as goal

pub returns-in-Some : goal.returns-in-Some
returns-in-Some c there is = set_leads c.args.self.now.text.now c.args.self.now.items.now c.args.self.now.placed.now c.args.seen c.args.item.now c.in-Register.register c.renamed-held.result c.popped.result
    c.in-Some.next there is c.in-Register.is c.renamed-held.ensures c.popped.ensures next
  where
    next : c.in-Some.next ≡ suc c.args.seen.item
    next = omega arith
