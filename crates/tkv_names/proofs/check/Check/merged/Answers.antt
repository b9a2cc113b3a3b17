use Rattle.std.proofs.Common.{◌≡◌, arith}
use Rattle.tkv_names.proofs.Joint.{leads_one, leads_other}
use Rattle.tkv_names.proofs.check.Check.merged.Goals as goal

pub returns-clause-one : goal.returns-clause-one
returns-clause-one c = leads_one c.args.self.now.text.now c.args.self.now.items.now c.args.self.now.placed.now c.args.one c.args.other c.shared.result c.shared.ensures

pub returns-clause-other : goal.returns-clause-other
returns-clause-other c = leads_other c.args.self.now.text.now c.args.self.now.items.now c.args.self.now.placed.now c.args.one c.args.other c.shared.result
    c.shared.ensures item placed level
  where
    item : c.args.one.item ≡ c.args.other.item
    item = omega arith

    placed : c.args.one.placed ≡ c.args.other.placed
    placed = omega arith

    level : c.args.one.level ≡ c.args.other.level
    level = omega arith
