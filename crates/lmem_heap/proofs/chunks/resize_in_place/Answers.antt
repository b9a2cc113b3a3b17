use Rattle.std.proofs.Common.{◌≡◌, ◌+◌, ◌-◌, ◌∙◌, sym, [], Some, unwrap_or, set, replicate, ap, subst, ℕ, arith}
use Rattle.geos_terms.proofs.Headers.{head-word}
use Rattle.geos_terms.specs.Block.{chunks}
use Rattle.lmem_heap.proofs.Edits.{resized-packed, resized-chunks, chunk-bytes}
use Rattle.lmem_heap.proofs.Extending.{heap-extent}
use Rattle.lmem_raw.specs.Bytes.{with_part}
use Rattle.geos_terms.specs.Chunks.{resized}
use Rattle.geos_terms.proofs.Costs.{cost-fours}
use Rattle.lmem_heap.specs.Moves.{MovesRun}
use Rattle.lmem_heap.specs.Packed.{SetsTail}
use Rattle.lmem_heap.proofs.PackedHeaps.{bounds, packed-heap}
use Rattle.lmem_heap.proofs.Making.{InPlace, in-place, resized-in-place}
use Rattle.lmem_heap.proofs.chunks.resize_in_place.Goals.{After-of-chunk}
use Rattle.lmem_heap.proofs.chunks.resize_in_place.Goals as goal

pub of-chunk-requires : goal.of-chunk-requires
of-chunk-requires c = heap-extent c.args.block.now c.args.i (packed-heap c.args.block.now c.requires.packed) c.requires.known c.requires.offset

-- the chunk and those after it fit in their new places
place : (c : After-of-chunk) → InPlace c.args.block.now c.args.n c.of-chunk.result
place c = in-place c.args.block.now c.args.i c.args.n c.of-chunk.result c.requires.packed c.requires.known
    c.requires.offset c.of-chunk.ensures c.requires.some c.requires.room

pub move_run-requires-clause-within : goal.move_run-requires-clause-within
move_run-requires-clause-within c = omega (
  arith,
  place (goal.at.move_run-requires-clause-within c).After-of-chunk,
  c.chunks_end-at.ensures,
  c.cost.ensures,
)

pub overflow_add-n : goal.overflow_add-n
overflow_add-n c = omega (arith, place (goal.at.overflow_add-n c).After-of-chunk)

pub clear-requires : goal.clear-requires
clear-requires c = omega (
  arith,
  place (goal.at.clear-requires c).After-of-chunk,
  c.of-chunk.ensures,
  c.saturating_sub-more.ensures,
  c.put16.auto.block,
  c.move_run.auto.block,
)

pub overflow_sub-at : goal.overflow_sub-at
overflow_sub-at c = omega (arith, place (goal.at.overflow_sub-at c).After-of-chunk, c.chunks_end-at.ensures)

pub set_tail-requires-clause-within : goal.set_tail-requires-clause-within
set_tail-requires-clause-within c = omega (
  arith,
  place (goal.at.set_tail-requires-clause-within c).After-of-chunk,
  c.chunks_end-at.ensures,
  c.cost.ensures,
  c.clear.auto.block,
  c.put16.auto.block,
  c.move_run.auto.block,
)

pub set_tail-requires-clause-fours : goal.set_tail-requires-clause-fours
set_tail-requires-clause-fours c =
    let bs = bounds c.args.block.now c.requires.packed in
    omega (
      arith,
      place (goal.at.set_tail-requires-clause-fours c).After-of-chunk,
      cost-fours c.of-chunk.result.len,
      cost-fours c.args.n,
      c.of-chunk.ensures.wide,
      bs.room,
      bs.fours,
      c.chunks_end-at.ensures,
      c.cost.ensures,
      c.clear.auto.block,
      c.put16.auto.block,
      c.move_run.auto.block,
    )

pub returns : goal.returns
returns c =
    let b = c.args.block.now in
    let x = c.of-chunk.result in
    let end = c.chunks_end-at.result in
    let d = c.set_tail.new.block in
    let known = c.requires.known in
    let offset = c.requires.offset in
    let r = resized-in-place b c.move_run.new.block c.put16.new.block c.clear.new.block d c.args.i end c.args.n x
    c.requires.packed known c.of-chunk.ensures (place (goal.at.returns c).After-of-chunk) c.chunks_end-at.ensures c.requires.some
    (subst (λ (size : ℕ). MovesRun b c.move_run.new.block x.end end (x.begin + size)) c.cost.ensures c.move_run.ensures)
    c.put16.ensures (subst (λ (m : ℕ). c.clear.new.block ≡ with_part c.put16.new.block (x.begin + 2 + x.len) (replicate m 0))
    c.saturating_sub-more.ensures c.clear.ensures)
    (subst (λ (size : ℕ). SetsTail c.clear.new.block d (x.begin + size + (end - x.end))) c.cost.ensures c.set_tail.ensures) in
    record {
      heap = packed-heap d (resized-packed b d c.args.i c.args.n c.requires.packed known offset c.requires.some c.requires.room r.0 r.1);
      chunks = resized-chunks b d c.args.i c.args.n c.requires.packed known offset c.requires.some c.requires.room r.0 r.1
          ∙ ap (λ y. set (chunks b) c.args.i (Some (resized (unwrap_or y []) c.args.n))) (sym (chunk-bytes b c.args.i known offset));
      handle = head-word b d 12 0 r.0.head (omega arith);
    }
