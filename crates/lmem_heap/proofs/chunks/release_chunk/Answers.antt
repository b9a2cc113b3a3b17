use Rattle.std.proofs.Common.{sym, ◌∙◌}
use Rattle.lmem_heap.proofs.Unplaced.{nothing-goes}
use Rattle.lmem_heap.proofs.chunks.release_chunk.Goals as goal

pub returns-then-entry : goal.returns-then-entry
returns-then-entry c =
    let g = nothing-goes c.args.block.now c.put_entry.new.block c.args.i c.requires.heap c.requires.known
    (sym c.entry.ensures ∙ c.if-entry.true) c.put_entry.ensures in
    record { heap = g.heap; chunks = g.chunks; handle = g.handle }

pub returns : goal.returns
returns c =
    let g = c.give_back.ensures in
    record { heap = g.heap; chunks = g.chunks ∙ c.left_by-hole.ensures.chunks; handle = g.handle ∙ c.left_by-hole.ensures.handle }
