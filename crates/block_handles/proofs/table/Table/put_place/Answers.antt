use Rattle.std.proofs.Common.{arith}
use Rattle.block_handles.specs.declared.table.Row.{Row}
use Rattle.block_handles.proofs.Rows.{change-seen, entry-within, some-row}
use Rattle.block_handles.proofs.table.Table.put_place.Goals as goal

pub returns : goal.returns
returns c =
    let new : Row = record c.index_mut-row.result.now { place = c.args.place; size = c.args.size } in
    change-seen c.self.inside.rows.items c.args.self.now c.self.view_is c.args.slot c.index_mut-row.result.now
    (entry-within c.args.self.now c.args.slot c.requires.used) c.index_mut-row.ensures.value c.requires.used new
    (λ e. record e { place = c.args.place; size = c.args.size }) (λ some. some-row new (omega (arith, c.requires.sized)))
