use Rattle.std.proofs.Common.{◌≡◌, ◌∙◌, Some, length, replicate, set, ap, arith}
use Rattle.geos_terms.specs.Block.{chunks, handle_word}
use Rattle.geos_terms.proofs.Costs.{cost-four}
use Rattle.lmem_heap.proofs.PackedHeaps.{first-fits, free-same, packed-heap, packed-room}
use Rattle.lmem_heap.proofs.chunks.new_chunk.Goals.{After-pack}
use Rattle.lmem_heap.proofs.chunks.new_chunk.Goals as goal

-- the packed block has the same chunks
packed-same : (c : After-pack) → chunks c.pack.new.block ≡ chunks c.args.block.now
packed-same c = c.pack.ensures.chunks ∙ ap chunks c.if-place_chunk.ensures.1

pub place_chunk-requires-2 : goal.place_chunk-requires-2
place_chunk-requires-2 c =
    let f = free-same c.args.block.now c.pack.new.block c.args.i (packed-same (goal.at.place_chunk-requires-2 c).After-pack)
    c.requires.known c.requires.free in
    record { heap = packed-heap c.pack.new.block c.pack.ensures.packed; known = f.0; free = f.1 }

pub unreachable-requires : goal.unreachable-requires
unreachable-requires c =
    let full = c.if-place_chunk-2.ensures in
    let t = packed-room c.args.block.now c.pack.new.block c.requires.heap c.pack.ensures.packed
    (packed-same (goal.at.unreachable-requires c).After-pack) (c.pack.auto.block ∙ ap length c.if-place_chunk.ensures.1) in
    let some = cost-four c.args.n full.0 in
    first-fits c.pack.new.block _ c.pack.ensures.packed (omega arith) (omega (arith, t, c.requires.room)) full.2

pub returns-then-place_chunk-2 : goal.returns-then-place_chunk-2
returns-then-place_chunk-2 c =
    let p = c.if-place_chunk-2.ensures in
    record {
      heap = p.heap;
      chunks = p.chunks ∙ ap (λ xs. set xs c.args.i (Some (replicate c.args.n 0))) (packed-same (goal.at.returns-then-place_chunk-2 c).After-pack);
      handle = p.handle ∙ c.pack.ensures.handle ∙ ap handle_word c.if-place_chunk.ensures.1;
    }
