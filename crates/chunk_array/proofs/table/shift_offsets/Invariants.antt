use Rattle.chunk_array.specs.Tables.{ShiftsOffsets}
use Rattle.chunk_array.proofs.table.shift_offsets.Given as goal

abbrev pub invariant-loop-j : goal.invariant-loop-j
invariant-loop-j l = ShiftsOffsets l.fn.bytes l.bytes l.from l.j l.less l.more
