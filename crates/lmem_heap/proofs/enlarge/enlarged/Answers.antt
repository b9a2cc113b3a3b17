use Rattle.std.proofs.Common.{◌∙◌}
use Rattle.lmem_heap.proofs.Enlarging.{enlarges}
use Rattle.lmem_heap.proofs.enlarge.enlarged.Goals as goal

pub at-hole-requires : goal.at-hole-requires
at-hole-requires c = (enlarges c.args.block.now c.put16.new.block c.args.old_size c.requires.heap c.requires.within
    c.requires.size c.put16.ensures).is

pub returns : goal.returns
returns c =
    let e = enlarges c.args.block.now c.put16.new.block c.args.old_size c.requires.heap c.requires.within c.requires.size c.put16.ensures in
    let g = c.give_back.ensures in
    record { heap = g.heap; chunks = g.chunks ∙ e.chunks; handle = g.handle ∙ e.handle }
