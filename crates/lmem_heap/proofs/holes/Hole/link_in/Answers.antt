use Rattle.std.proofs.Common.{refl, arith}
use Rattle.lmem_heap.proofs.FreeLists.{open-place}
use Rattle.lmem_heap.proofs.Taking.{hole-linked}
use Rattle.lmem_heap.proofs.holes.Hole.link_in.Goals as goal

pub overflow_cast-size : goal.overflow_cast-size
overflow_cast-size c = let p = open-place _ _ _ _ c.requires.hole.is in omega (arith, p.high, p.most)

pub get16-next-requires : goal.get16-next-requires
get16-next-requires c = let p = open-place _ _ _ _ c.requires.hole.is in omega (arith, p.link_high, p.high, c.requires.some)

pub put16-requires : goal.put16-requires
put16-requires c = omega (arith, (open-place _ _ _ _ c.requires.hole.is).high, c.requires.hole.is.fours, c.requires.some, c.requires.fours)

pub put16-requires-2 : goal.put16-requires-2
put16-requires-2 c = omega (
  arith,
  (open-place _ _ _ _ c.requires.hole.is).high,
  c.requires.hole.is.fours,
  c.requires.some,
  c.requires.fours,
  c.put16.auto.block,
)

pub overflow_cast-self : goal.overflow_cast-self
overflow_cast-self c = let p = open-place _ _ _ _ c.requires.hole.is in omega (arith, p.high, p.most, c.requires.some)

pub put16-requires-3 : goal.put16-requires-3
put16-requires-3 c = let p = open-place _ _ _ _ c.requires.hole.is in
    omega (arith, p.link_high, p.high, c.requires.some, c.put16.auto.block, c.put16-2.auto.block)

pub overflow_add-total : goal.overflow_add-total
overflow_add-total c = let p = open-place _ _ _ _ c.requires.hole.is in omega (arith, p.room, p.most, c.get16-total.ensures)

pub returns : goal.returns
returns c =
    hole-linked c.args.block.now c.put16.new.block c.put16-2.new.block c.put16-3.new.block c.put16-4.new.block
    c.args.self.link c.args.self.at c.args.self.end _ c.get16-next.result _ c.requires.hole c.requires.some c.requires.fours c.requires.apart
    (λ far e. c.requires.alone ((λ z. absurd (omega (arith, far, z))), e)) refl c.get16-next.ensures (omega arith)
    (omega (arith, c.get16-total.ensures)) c.put16.ensures c.put16-2.ensures c.put16-3.ensures c.put16-4.ensures
