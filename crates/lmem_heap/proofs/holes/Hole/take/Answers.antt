use Rattle.std.proofs.Common.{arith}
use Rattle.lmem_heap.proofs.Taking.{free-fits}
use Rattle.lmem_heap.proofs.holes.Hole.take.Goals as goal

pub get16-requires : goal.get16-requires
get16-requires c = let f = free-fits _ _ _ _ c.requires.hole c.requires.behind in omega (arith, f.four, f.inside)
