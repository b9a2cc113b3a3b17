use Rattle.std.proofs.Common.{◌≡◌, suc, arith}
use Rattle.tkv_names.specs.declared.ways.Spot.{Spot}
use Rattle.tkv_names.specs.Seen.{Reaches, Escapes}
use Rattle.tkv_names.proofs.Cases.{some_map}
use Rattle.tkv_names.proofs.Passing.{into_block, over_end, by_leave}
use Rattle.tkv_names.proofs.check.Check.onward.Goals as goal

pub returns-in_ok-level-in-Block : goal.returns-in_ok-level-in-Block
returns-in_ok-level-in-Block c = into_block c.args.self.now.placed.now c.args.spot.index c.args.spot.level c.in_ok-item.item c.in_ok-item.ensures
    c.in_ok-from.from c.in_ok-level-in-Block.level c.in-Block.is next level
  where
    next : c.in_ok-from.from ≡ suc c.args.spot.index
    next = omega arith

    level : c.in_ok-level-in-Block.level ≡ suc c.args.spot.level
    level = omega arith

pub returns-in_ok-level-in-End : goal.returns-in_ok-level-in-End
returns-in_ok-level-in-End c = over_end c.args.self.now.placed.now c.args.spot.index c.args.spot.level c.in_ok-item.item c.in_ok-item.ensures
    c.in_ok-from.from c.in_ok-level-in-End.level c.in-End.is next level
  where
    next : c.in_ok-from.from ≡ suc c.args.spot.index
    next = omega arith

    level : c.args.spot.level ≡ suc c.in_ok-level-in-End.level
    level = omega arith

pub returns-in-Leave : goal.returns-in-Leave
returns-in-Leave c = some_map
    (λ (one : Spot). Escapes c.args.self.now.placed.now c.in_ok-from.from c.args.spot.level c.in_ok-item.item.to one.index one.level)
    (λ (one : Spot). Reaches c.args.self.now.placed.now c.args.spot.index c.args.spot.level one.index one.level)
    (λ one escapes. by_leave c.args.self.now.placed.now c.args.spot.index c.args.spot.level c.in_ok-item.item c.in_ok-item.ensures
    c.in_ok-from.from one.index one.level c.in-Leave.is next escapes) c.block_end.result c.block_end.ensures
  where
    next : c.in_ok-from.from ≡ suc c.args.spot.index
    next = omega arith
