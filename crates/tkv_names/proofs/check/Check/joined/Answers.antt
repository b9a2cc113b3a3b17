use Rattle.tkv_names.proofs.Joint.{with_met}
use Rattle.tkv_names.proofs.check.Check.joined.Goals as goal

pub returns : goal.returns
returns c at all = with_met c.args.self.now.text.now c.args.self.now.items.now c.args.self.now.placed.now c.args.waiting c.args.old.place c.args.old.seen
    c.args.seen c.in_ok-both.both at c.in_ok-both.ensures.one c.in_ok-both.ensures.other all
