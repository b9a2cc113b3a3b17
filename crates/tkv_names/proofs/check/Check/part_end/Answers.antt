use Rattle.std.proofs.Common.{◌≡◌, suc, ◌+◌, refl, arith}
use Rattle.tkv_names.proofs.Passing.{passing_next, passing_end}
use Rattle.tkv_names.proofs.check.Check.part_end.Goals as goal

pub returns-then-ends_part : goal.returns-then-ends_part
returns-then-ends_part c = passing_end c.args.self.now.text.now c.args.self.now.items.now c.args.from c.loop-index.index c.loop-index.depth
    (c.loop-index.index + 1) c.in_ok-item.item c.in_ok-item.ensures c.if-depth-eq0.true (c.if-ends_part.ensures refl) next c.loop-index.invariant
  where
    next : c.loop-index.index + 1 ≡ suc c.loop-index.index
    next = omega arith

pub loop-index-preserved : goal.loop-index-preserved
loop-index-preserved c = passing_next c.args.self.now.text.now c.args.self.now.items.now c.args.from c.loop-index.index c.loop-index.depth
    c.in_ok-depth.depth (c.loop-index.index + 1) c.in_ok-item.item c.in_ok-item.ensures c.in_ok-depth.ensures next c.loop-index.invariant
  where
    next : c.loop-index.index + 1 ≡ suc c.loop-index.index
    next = omega arith
