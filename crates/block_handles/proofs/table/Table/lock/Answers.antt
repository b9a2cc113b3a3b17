use Rattle.std.proofs.Common.{◌≡◌, ◌<◌, ◌≤◌, ap, arith}
use Rattle.block_handles.specs.declared.table.Row.{Row}
use Rattle.block_handles.proofs.Rows.{lock-seen, same-row}
use Rattle.block_handles.proofs.table.Table.lock.Goals as goal

pub returns-clause-taken : goal.returns-clause-taken
returns-clause-taken c = λ taken.
    let row : Row = c.index_mut.result.now in
    let same : row ≡ c.index.result.now = same-row c.self.inside.rows.items c.args.self.now c.self.view_is c.args.slot row c.requires.within
    c.index_mut.ensures.value c.index.result.now c.index.ensures in
    let left : 0 < row.left = omega (arith, c.if-index-eq0.false, ap (λ (r : Row). r.left) same) in
    let most : row.left ≤ 65535 = omega arith in
    lock-seen c.self.inside.rows.items c.args.self.now c.self.view_is c.args.slot row c.requires.within c.index_mut.ensures.value left most
    c.requires.sized
