use Rattle.std.proofs.Common.{ℕ, ◌-◌, sym, subst, arith, rules}
use Rattle.lmem_raw.specs.Bytes.{part}
use Rattle.geos_terms.specs.Chunks.{resized}
use Rattle.geos_terms.specs.Block.{entry}
use Rattle.geos_terms.proofs.Costs.{cost-fours}
use Rattle.lmem_heap.specs.Holes.{IsOpen}
use Rattle.lmem_heap.specs.Packed.{chunk_length}
use Rattle.lmem_heap.proofs.Moving.{Redirects}
use Rattle.lmem_heap.proofs.MovingIn.{moved-in, open-extent, open-room}
use Rattle.lmem_heap.proofs.holes.Hole.move_in.Goals.{After-clear}
use Rattle.lmem_heap.proofs.holes.Hole.move_in.Goals as goal

pub of-chunk-requires : goal.of-chunk-requires
of-chunk-requires c = open-extent _ _ _ _ _ c.requires.hole.is c.requires.known c.requires.offset

pub overflow_cast-self : goal.overflow_cast-self
overflow_cast-self c = omega (arith, open-room _ _ _ _ c.args.n c.requires.hole.is c.requires.some c.requires.room)

pub overflow_add-n : goal.overflow_add-n
overflow_add-n c = omega (arith, open-room _ _ _ _ c.args.n c.requires.hole.is c.requires.some c.requires.room)

pub put16-requires : goal.put16-requires
put16-requires c = omega (arith, open-room _ _ _ _ c.args.n c.requires.hole.is c.requires.some c.requires.room, c.put_entry.auto.block)

pub move_bytes-requires-clause-target : goal.move_bytes-requires-clause-target
move_bytes-requires-clause-target c = omega (
  arith,
  open-room _ _ _ _ c.args.n c.requires.hole.is c.requires.some c.requires.room,
  c.min-keep.ensures,
  c.put_entry.auto.block,
  c.put16.auto.block,
)

pub overflow_add-self-4 : goal.overflow_add-self-4
overflow_add-self-4 c = omega (arith, open-room _ _ _ _ c.args.n c.requires.hole.is c.requires.some c.requires.room, c.min-keep.ensures)

pub clear-requires : goal.clear-requires
clear-requires c = omega (
  arith,
  open-room _ _ _ _ c.args.n c.requires.hole.is c.requires.some c.requires.room,
  c.min-keep.ensures,
  c.put_entry.auto.block,
  c.put16.auto.block,
  c.move_bytes.auto.block,
)

-- what the writes leave
moved : (c : After-clear) → Redirects c.args.block.now c.clear.new.block c.args.i
    (resized (part c.args.block.now (entry c.args.block.now c.args.i) (chunk_length c.args.block.now c.args.i)) c.args.n)
moved c =
    moved-in _ _ _ _ _ _ _ _ _ c.min-keep.result _ c.of-chunk.result c.requires.hole.is c.requires.known c.requires.offset
    c.of-chunk.ensures c.requires.some c.requires.room c.min-keep.ensures
    c.put_entry.ensures c.put16.ensures c.move_bytes.ensures c.clear.ensures

pub at-requires : goal.at-requires
at-requires c =
    subst (λ (begin : ℕ). IsOpen c.clear.new.block 12 begin c.of-chunk.result.end) (omega (arith, c.of-chunk.ensures.entry))
    (subst (λ (end : ℕ). IsOpen c.clear.new.block 12 (entry c.args.block.now c.args.i - 2) end) (sym c.of-chunk.ensures.end)
    (moved (goal.at.at-requires c).After-clear).is)

pub returns : goal.returns
returns c =
    let m = moved (goal.at.returns c).After-clear in
    record {
      hole = search rules;
      fours = omega (
        arith,
        c.at.ensures.place,
        c.of-chunk.ensures.entry,
        c.of-chunk.ensures.wide,
        cost-fours c.of-chunk.result.len,
        m.is.fours,
      );
      chunks = m.chunks;
      handle = m.handle;
    }
