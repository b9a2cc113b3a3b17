use Rattle.std.proofs.Common.{◌≡◌, ◌+◌, ◌-◌, ◌*◌, ap, arith}
use Rattle.chunk_array.specs.Tables.{offset}
use Rattle.chunk_array.proofs.Tables.{opens, low-stays, high-moves}
use Rattle.chunk_array.proofs.table.open_table.Goals as goal

pub shift_offsets-requires-clause-room : goal.shift_offsets-requires-clause-room
shift_offsets-requires-clause-room c j l h =
    let e = low-stays c.args.bytes.now c.move_bytes.new.block c.args.i (c.args.at - (8 + 2 * c.args.i)) j c.move_bytes.ensures h in
    let o = c.requires.offsets j (omega arith) in (omega arith, omega (arith, e, o))

pub shift_offsets-requires-2-clause-room : goal.shift_offsets-requires-2-clause-room
shift_offsets-requires-2-clause-room c j l h =
    let back : j - 1 + 1 ≡ j = omega arith in
    let e = high-moves c.args.bytes.now c.move_bytes.new.block c.shift_offsets.new.bytes c.put16.new.block c.args.i
    c.args.at (c.args.at + 2) (j - 1) (omega arith) (omega arith) c.move_bytes.ensures c.shift_offsets.ensures c.put16.ensures (omega arith) in
    let o = c.requires.offsets (j - 1) (omega arith) in
    let f = ap (offset c.put16.new.block) back in (omega arith, omega (arith, e, o, f))

pub returns : goal.returns
returns c =
    opens c.args.bytes.now c.move_bytes.new.block c.shift_offsets.new.bytes c.put16.new.block c.shift_offsets-2.new.bytes
    c.args.count c.args.i c.args.at c.args.n c.requires.order c.requires.table c.requires.room (omega arith)
    c.move_bytes.ensures c.shift_offsets.ensures c.put16.ensures c.shift_offsets-2.ensures
