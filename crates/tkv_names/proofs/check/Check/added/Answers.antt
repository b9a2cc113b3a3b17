use Rattle.tkv_names.proofs.Joint.{with_new}
use Rattle.tkv_names.proofs.check.Check.added.Goals as goal

pub returns : goal.returns
returns c all = with_new c.args.self.now.text.now c.args.self.now.items.now c.args.self.now.placed.now c.args.waiting c.in_ok-place.place c.args.seen
    c.in_ok-place.ensures all
