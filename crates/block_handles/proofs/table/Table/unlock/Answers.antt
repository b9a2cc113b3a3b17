use Rattle.std.proofs.Common.{◌≡◌, ◌+◌, ◌-◌, Some, ap, ◌∙◌, arith}
use Rattle.block_handles.specs.declared.table.Row.{Row}
use Rattle.block_handles.proofs.Rows.{change-seen, entry-within, locked-entry, some-row}
use Rattle.block_handles.proofs.table.Table.unlock.Goals as goal

pub returns : goal.returns
returns c =
    let row : Row = c.index_mut.result.now in
    let new : Row = record row { left = row.left + 1 } in
    let less : 65535 - (row.left + 1) ≡ 65535 - row.left - 1 = omega arith in
    let used = locked-entry _ c.requires in
    change-seen c.self.inside.rows.items c.args.self.now c.self.view_is c.args.slot row
    (entry-within c.args.self.now c.args.slot used) c.index_mut.ensures.value used new
    (λ e. record e { locks = e.locks - 1 }) (λ some. some-row new (omega arith)
    ∙ ap (λ n. Some (record { place = row.place; size = row.size; locks = n })) less)
