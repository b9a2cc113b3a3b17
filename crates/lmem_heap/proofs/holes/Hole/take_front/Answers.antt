use Rattle.std.proofs.Common.{arith}
use Rattle.lmem_heap.proofs.FreeLists.{open-place}
use Rattle.lmem_heap.proofs.Taking.{free-fits, front-taken}
use Rattle.lmem_heap.proofs.holes.Hole.take_front.Goals as goal

pub get16-requires : goal.get16-requires
get16-requires c = let f = free-fits _ _ _ _ c.requires.hole c.requires.behind in omega (arith, f.four, f.inside)

pub overflow_add-self : goal.overflow_add-self
overflow_add-self c = let f = free-fits _ _ _ _ c.requires.hole c.requires.behind in omega (arith, f.four, f.inside, c.requires.hole.is.header.most)

pub get16-next-requires : goal.get16-next-requires
get16-next-requires c = let f = free-fits _ _ _ _ c.requires.hole c.requires.behind in omega (arith, f.four, f.inside)

pub overflow_add-end : goal.overflow_add-end
overflow_add-end c = omega (arith, (free-fits _ _ _ _ c.requires.hole c.requires.behind).inside, c.requires.hole.is.header.most, c.requires.room)

pub put16-requires : goal.put16-requires
put16-requires c = let f = free-fits _ _ _ _ c.requires.hole c.requires.behind in omega (arith, f.fours, f.inside, c.requires.fours, c.requires.room)

pub overflow_add-end-2 : goal.overflow_add-end-2
overflow_add-end-2 c = omega (arith, (free-fits _ _ _ _ c.requires.hole c.requires.behind).inside, c.requires.hole.is.header.most, c.requires.room)

pub put16-requires-2 : goal.put16-requires-2
put16-requires-2 c = let f = free-fits _ _ _ _ c.requires.hole c.requires.behind in
    omega (arith, f.fours, f.inside, c.requires.fours, c.requires.room, c.put16.auto.block)

pub overflow_cast-end : goal.overflow_cast-end
overflow_cast-end c = omega (arith, (free-fits _ _ _ _ c.requires.hole c.requires.behind).inside, c.requires.hole.is.header.most, c.requires.room)

pub put16-requires-3 : goal.put16-requires-3
put16-requires-3 c = let p = open-place _ _ _ _ c.requires.hole.is in
    omega (arith, p.link_high, p.high, c.requires.hole.is.order, c.put16.auto.block, c.put16-2.auto.block)

pub overflow_sub-total : goal.overflow_sub-total
overflow_sub-total c = omega (arith, (free-fits _ _ _ _ c.requires.hole c.requires.behind).sum, c.requires.room, c.get16-total.ensures)

pub returns-clause-wider : goal.returns-clause-wider
returns-clause-wider c =
    let f = free-fits _ _ _ _ c.requires.hole c.requires.behind in
    front-taken c.args.block.now c.put16.new.block c.put16-2.new.block c.put16-3.new.block c.put16-4.new.block
    c.args.self.link c.args.self.at c.args.self.end c.args.size _ c.get16-next.result _ c.requires.hole c.requires.behind
    c.requires.some c.requires.fours c.requires.room
    (omega (arith, c.get16.ensures, c.requires.room)) c.get16-next.ensures (omega arith)
    (omega (arith, f.sum, c.requires.room, c.get16-total.ensures)) c.put16.ensures c.put16-2.ensures c.put16-3.ensures c.put16-4.ensures
