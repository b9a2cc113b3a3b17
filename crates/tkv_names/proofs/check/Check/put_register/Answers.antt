use Rattle.std.proofs.Common.{◌≡◌, suc, refl, arith}
use Rattle.tkv_names.proofs.Cases.{put_leads}
use Rattle.tkv_names.proofs.check.Check.put_register.Goals as goal

pub returns-in-Some-Some : goal.returns-in-Some-Some
returns-in-Some-Some c there is = put_leads c.args.self.now.text.now c.args.self.now.items.now c.args.self.now.placed.now c.args.seen c.args.item.now c.in-Register.register c.popped.result
    c.in-Some-Some.item c.in-Some-Some.placed there is c.in-Register.is (c.if-not-is_out.ensures refl) c.popped.ensures item placed
  where
    item : c.in-Some-Some.item ≡ suc c.args.seen.item
    item = omega arith

    placed : c.in-Some-Some.placed ≡ suc c.args.seen.placed
    placed = omega arith
