use Rattle.std.proofs.Common.{refl}
use Rattle.lmem_heap.proofs.Tails.{tail-none, tail-some}
use Rattle.lmem_heap.proofs.tail.set_tail.Goals as goal

pub returns-then-free-eq0 : goal.returns-then-free-eq0
returns-then-free-eq0 c =
    tail-none c.args.block.now c.put16.new.block c.put16-then-free-eq0.new.block c.args.at _ c.requires.within.0
    c.requires.within.1 refl c.if-free-eq0.true c.put16.ensures c.put16-then-free-eq0.ensures

pub returns-else-free-eq0 : goal.returns-else-free-eq0
returns-else-free-eq0 c =
    tail-some c.args.block.now c.put16.new.block c.put16-else-free-eq0.new.block c.put16-else-free-eq0-2.new.block
    c.put16-else-free-eq0-3.new.block c.args.at _ c.requires.within.0 c.requires.within.1 c.requires.within.2
    refl c.requires.fours c.if-free-eq0.false
    c.put16.ensures c.put16-else-free-eq0.ensures c.put16-else-free-eq0-2.ensures c.put16-else-free-eq0-3.ensures
