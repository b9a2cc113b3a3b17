use Rattle.tkv_names.proofs.Cases.{body_ends, return_ends}
use Rattle.tkv_names.proofs.check.Check.ends.Goals as goal

pub returns-in-BodyEnd : goal.returns-in-BodyEnd
returns-in-BodyEnd c there t = body_ends c.args.self.now.text.now c.args.self.now.items.now c.args.self.now.placed.now c.args.seen c.args.item.now there c.in-BodyEnd.is (c.is_over.ensures t)

pub returns-then-item-eq0 : goal.returns-then-item-eq0
returns-then-item-eq0 c there t = return_ends c.args.self.now.text.now c.args.self.now.items.now c.args.self.now.placed.now c.args.seen c.args.item.now there c.in-Return.is c.if-item-eq0.true (c.is_over-then-item-eq0.ensures t)
