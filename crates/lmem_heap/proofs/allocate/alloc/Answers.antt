use Rattle.std.proofs.Common.{ap, arith}
use Rattle.geos_terms.specs.Chunks.{used_bytes}
use Rattle.geos_terms.specs.Block.{chunks}
use Rattle.geos_terms.proofs.Lowest.{block-used, used-with_new}
use Rattle.lmem_heap.proofs.allocate.alloc.Goals as goal

pub make_entry-requires-clause-room : goal.make_entry-requires-clause-room
make_entry-requires-clause-room c =
    omega (arith, (used-with_new (chunks c.args.block.now) c.args.len).0, c.in_ok-room_for.ensures.0, c.used_with_new-used.ensures.value)

pub new_chunk-requires-clause-room : goal.new_chunk-requires-clause-room
new_chunk-requires-clause-room c =
    let e = ap used_bytes c.make_entry.ensures.chunks in
    omega (
      arith,
      (used-with_new (chunks c.args.block.now) c.args.len).0,
      e,
      block-used c.make_entry.new.block c.make_entry.ensures.heap,
      c.in_ok-room_for.ensures.0,
      c.used_with_new-used.ensures.value,
      c.make_entry.auto.block,
    )
