use Rattle.std.proofs.Common.{None, refl}
use Rattle.block_handles.specs.Rows.{free_row}
use Rattle.block_handles.proofs.Rows.{set-seen}
use Rattle.block_handles.proofs.table.Table.free.Goals as goal

pub returns : goal.returns
returns c = set-seen c.self.inside.rows.items c.args.self.now c.self.view_is c.args.slot free_row None refl
