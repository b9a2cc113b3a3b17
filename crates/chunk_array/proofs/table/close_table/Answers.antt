use Rattle.std.proofs.Common.{◌+◌, ◌-◌, ◌*◌, refl, arith}
use Rattle.chunk_array.proofs.Tables.{closes, low-kept, high-lowers}
use Rattle.chunk_array.proofs.table.close_table.Goals as goal

pub shift_offsets-requires-clause-room : goal.shift_offsets-requires-clause-room
shift_offsets-requires-clause-room c j l h =
    let e = low-kept c.args.bytes.now c.move_bytes.new.block c.args.i (c.args.at - (8 + 2 * c.args.i + 2)) j c.move_bytes.ensures h in
    let o = c.requires.before j h in (omega (arith, e, o.0), omega (arith, e, o.1))

pub shift_offsets-requires-2-clause-room : goal.shift_offsets-requires-2-clause-room
shift_offsets-requires-2-clause-room c j l h =
    let e = high-lowers c.args.bytes.now c.move_bytes.new.block c.shift_offsets.new.bytes c.args.i c.args.at j
    (omega arith) (omega arith) c.move_bytes.ensures c.shift_offsets.ensures l in
    let o = c.requires.behind (j + 1) (omega arith) (omega arith) in (omega (arith, e, o.0), omega (arith, e, o.1))

pub returns : goal.returns
returns c =
    closes c.args.bytes.now c.move_bytes.new.block c.shift_offsets.new.bytes c.shift_offsets-2.new.bytes c.args.count
    c.args.i c.args.at c.args.n (c.args.count - 1) c.requires.order refl c.requires.table (omega arith)
    c.move_bytes.ensures c.shift_offsets.ensures c.shift_offsets-2.ensures
