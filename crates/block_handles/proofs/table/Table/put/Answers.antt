use Rattle.std.proofs.Common.{arith}
use Rattle.block_handles.proofs.Rows.{set-seen, some-row}
use Rattle.block_handles.proofs.table.Table.put.Goals as goal

pub returns : goal.returns
returns c = set-seen c.self.inside.rows.items c.args.self.now c.self.view_is c.args.slot _ _
    (some-row (record { place = c.args.place; size = c.args.size; left = 65535; padding = 0 }) (omega arith))
