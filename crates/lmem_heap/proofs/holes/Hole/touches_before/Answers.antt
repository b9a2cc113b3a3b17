use Rattle.std.proofs.Common.{arith}
use Rattle.lmem_heap.proofs.FreeLists.{open-place}
use Rattle.lmem_heap.proofs.holes.Hole.touches_before.Goals as goal

pub get16-requires : goal.get16-requires
get16-requires c = let p = open-place _ _ _ _ c.requires.is in omega (arith, p.link_low, p.link_high, p.high, c.requires.is.order)

pub overflow_add-result : goal.overflow_add-result
overflow_add-result c = let p = open-place _ _ _ _ c.requires.is in omega (arith, p.link_high, p.high, p.most, c.requires.is.order)
