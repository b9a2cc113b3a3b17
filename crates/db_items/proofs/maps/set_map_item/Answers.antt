use Rattle.std.proofs.Common.{◌≡◌, true, false}
use Rattle.db_items.proofs.GroupRows.{map_no_group-row, map_range-row}
use Rattle.db_items.proofs.maps.set_map_item.Goals as goal

pub returns-then-not-is_group-clause-row : goal.returns-then-not-is_group-clause-row
returns-then-not-is_group-clause-row g c = λ s tied.
    let d = g.D.Device in
    map_no_group-row d.medium c.args.vm.now s c.args.group c.args.item tied c.if-group-ne0.true
    (λ group. let no : false ≡ true = c.if-not-is_group.ensures.1 group in absurd cc)

pub returns-then-item-ne0-clause-row : goal.returns-then-item-ne0-clause-row
returns-then-item-ne0-clause-row g c = λ s tied.
    let d = g.D.Device in
    map_range-row d.medium c.args.vm.now s c.args.group c.args.item tied c.if-group-eq0.true c.if-item-ne0.true
