use Rattle.std.proofs.Common.{◌+◌, ◌-◌, arith}
use Rattle.chunk_array.proofs.Tables.{shifts-none, shifts-ahead, shifts-more}
use Rattle.chunk_array.proofs.table.shift_offsets.Goals as goal

pub loop-j-init : goal.loop-j-init
loop-j-init c = shifts-none c.args.bytes.now c.args.from c.args.less c.args.more

pub overflow_sub-moved : goal.overflow_sub-moved
overflow_sub-moved c =
    let e = shifts-ahead c.args.bytes.now c.loop-j.bytes c.args.from c.loop-j.j c.args.less c.args.more c.loop-j.j c.loop-j.invariant (omega arith) in
    let r = c.requires.room c.loop-j.j (omega arith) c.loop-j-test.true in omega (arith, e, r.0, c.get16.ensures)

pub overflow_cast-moved-in-loop-j : goal.overflow_cast-moved-in-loop-j
overflow_cast-moved-in-loop-j c =
    let e = shifts-ahead c.args.bytes.now c.loop-j.bytes c.args.from c.loop-j.j c.args.less c.args.more c.loop-j.j c.loop-j.invariant (omega arith) in
    let r = c.requires.room c.loop-j.j (omega arith) c.loop-j-test.true in omega (arith, e, r.0, r.1, c.get16.ensures)

pub loop-j-preserved : goal.loop-j-preserved
loop-j-preserved c =
    let j = c.loop-j.j in
    let e = shifts-ahead c.args.bytes.now c.loop-j.bytes c.args.from j c.args.less c.args.more j c.loop-j.invariant (omega arith) in
    let r = c.requires.room j (omega arith) c.loop-j-test.true in
    let w = c.get16.result - c.args.less + c.args.more in
    shifts-more c.args.bytes.now c.loop-j.bytes c.put16.new.block c.args.from j c.args.less c.args.more w c.loop-j.invariant
    (omega arith) (omega (arith, c.requires.within, c.loop-j-test.true)) c.put16.ensures
    (omega (arith, e, r.0, r.1, c.get16.ensures)) (omega (arith, e, r.0, c.get16.ensures))
