use Rattle.std.proofs.Common.{arith}
use Rattle.lmem_heap.proofs.PackedHeaps.{bounds}
use Rattle.lmem_heap.proofs.Making.{grow-made}
use Rattle.lmem_heap.proofs.table.grow_table.Goals as goal

pub move_run-requires-clause-within : goal.move_run-requires-clause-within
move_run-requires-clause-within c = let bs = bounds _ c.requires.packed in
    omega (arith, bs.low, bs.room, c.requires.room, c.entries-n.ensures.value, c.chunks_end-at.ensures)

pub put16-requires : goal.put16-requires
put16-requires c = let bs = bounds c.args.block.now c.requires.packed in
    omega (arith, bs.low, bs.room, c.requires.room, c.entries-n.ensures.value, c.move_run.auto.block)

pub put16-requires-2 : goal.put16-requires-2
put16-requires-2 c = let bs = bounds c.args.block.now c.requires.packed in
    omega (arith, bs.low, bs.room, c.requires.room, c.entries-n.ensures.value, c.move_run.auto.block, c.put16.auto.block)

pub returns : goal.returns
returns c =
    let bs = bounds _ c.requires.packed in
    let n = c.entries-n.ensures.value in
    let at = c.chunks_end-at.ensures in
    grow-made c.args.block.now c.move_run.new.block c.put16.new.block c.put16-2.new.block c.put16-3.new.block
    c.set_tail.new.block c.entries-n.result c.table_end-end.result c.chunks_end-at.result n c.table_end-end.ensures.value at
    (omega (arith, bs.low, bs.room, n, at)) (omega (arith, bs.low, bs.room, c.requires.room, at)) bs.most c.move_run.ensures
    c.put16.ensures c.put16-2.ensures c.put16-3.ensures c.set_tail.ensures
