use Rattle.std.proofs.Common.{◌-◌, length}
use Rattle.geos_image.proofs.Filled.{same-everywhere}
use Rattle.geos_image.proofs.table.Table.new.Goals as goal

pub returns : goal.returns
returns g c = λ pc. same-everywhere c.args.item c.in_ok-items.items.items (4096 - length c.in_ok-items.items.items) pc c.in_ok-items.ensures.items
