use Rattle.std.proofs.Common.{[], ◌∷◌, ◌++◌, None, ap, sym, ◌∙◌, arith}
use Rattle.geos_terms.specs.Block.{entry}
use Rattle.geos_terms.proofs.Headers.{head-word}
use Rattle.geos_terms.proofs.Lowest.{entries-same}
use Rattle.lmem_heap.proofs.Additions.{grown-packed, grown-chunks}
use Rattle.lmem_heap.proofs.PackedHeaps.{packed-heap, packed-room}
use Rattle.lmem_heap.proofs.table.add_entries.Goals as goal

pub grow_table-requires-clause-room : goal.grow_table-requires-clause-room
grow_table-requires-clause-room c =
    omega (
      arith,
      packed-room c.args.block.now c.pack.new.block c.requires.heap c.pack.ensures.packed c.pack.ensures.chunks c.pack.auto.block,
      c.requires.room,
    )

pub returns : goal.returns
returns c =
    let p = c.pack.new.block in
    let g = c.grow_table.new.block in
    let t = packed-room c.args.block.now p c.requires.heap c.pack.ensures.packed c.pack.ensures.chunks c.pack.auto.block in
    let n = entries-same c.args.block.now p c.pack.ensures.chunks in
    record {
      heap = packed-heap g (grown-packed p g c.pack.ensures.packed (omega (arith, t, c.requires.room)) c.grow_table.ensures);
      chunks = grown-chunks p g c.pack.ensures.packed (omega (arith, t, c.requires.room)) c.grow_table.ensures
          ∙ ap (λ xs. xs ++ (None ∷ (None ∷ []))) c.pack.ensures.chunks;
      handle = head-word p g 10 0 c.grow_table.ensures.head (omega arith) ∙ c.pack.ensures.handle;
      count = omega (arith, n, c.grow_table.ensures.count);
      fresh = ap (entry g) (sym n) ∙ c.grow_table.ensures.fresh.0;
    }
