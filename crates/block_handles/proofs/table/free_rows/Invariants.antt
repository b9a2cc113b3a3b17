use Rattle.std.proofs.Common.{◌≡◌, replicate}
use Rattle.block_handles.specs.Rows.{free_row}
use Rattle.block_handles.proofs.table.free_rows.Given as goal

abbrev pub invariant-loop : goal.invariant-loop
invariant-loop l = l.rows.items ≡ replicate l.counter free_row
