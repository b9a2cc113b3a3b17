use Rattle.std.proofs.Common.{refl, arith}
use Rattle.lmem_heap.proofs.FreeLists.{open-place}
use Rattle.lmem_heap.proofs.Taking.{hole-merged}
use Rattle.lmem_heap.proofs.holes.Hole.merge_before.Goals as goal

pub overflow_cast-self : goal.overflow_cast-self
overflow_cast-self c = let p = open-place _ _ _ _ c.requires.hole.is in omega (arith, p.high, p.most)

pub put16-requires : goal.put16-requires
put16-requires c = let p = open-place _ _ _ _ c.requires.hole.is in omega (arith, p.link_low, p.link_high, p.high, c.requires.some)

pub overflow_cast-self-2 : goal.overflow_cast-self-2
overflow_cast-self-2 c = let p = open-place _ _ _ _ c.requires.hole.is in omega (arith, p.high, p.most)

pub overflow_add-total : goal.overflow_add-total
overflow_add-total c = let p = open-place _ _ _ _ c.requires.hole.is in omega (arith, p.room, p.most, c.get16-total.ensures)

pub returns : goal.returns
returns c =
    hole-merged c.args.block.now c.put16.new.block c.put16-2.new.block c.args.self.link c.args.self.at c.args.self.end
    _ _ c.requires.hole c.requires.some c.requires.fours c.requires.apart c.requires.touch.0 c.requires.touch.1
    refl (omega (arith, c.get16-total.ensures)) c.put16.ensures c.put16-2.ensures
