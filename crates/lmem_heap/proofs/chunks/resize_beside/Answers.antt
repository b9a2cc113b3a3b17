use Rattle.std.proofs.Common.{◌≡◌, ℕ, ◌+◌, ◌%◌, ◌≤◌, Some, None, length, set, get_or, refl, ap, sym, ◌∙◌, subst, arith}
use Rattle.lmem_raw.specs.Bytes.{part}
use Rattle.geos_terms.specs.Bytes.{word}
use Rattle.geos_terms.specs.Chunks.{entry_bytes, resized}
use Rattle.geos_terms.specs.Block.{chunks, entries, entry}
use Rattle.geos_terms.proofs.Costs.{cost-fours}
use Rattle.geos_terms.proofs.Sums.{count-chunks}
use Rattle.geos_terms.proofs.Words.{part-shifted}
use Rattle.geos_terms.proofs.Lowest.{set-twice}
use Rattle.lmem_heap.specs.Holes.{IsOpen}
use Rattle.lmem_heap.proofs.Edits.{chunk-bytes}
use Rattle.lmem_heap.proofs.Extending.{heap-extent}
use Rattle.lmem_heap.proofs.FreeLists.{open-heap}
use Rattle.lmem_heap.proofs.Leaving.{left-bytes}
use Rattle.lmem_heap.proofs.Refits.{placed, placed-length, resized-same, set-same}
use Rattle.lmem_heap.proofs.chunks.resize_beside.Goals as goal

pub of-chunk-requires : goal.of-chunk-requires
of-chunk-requires c = heap-extent c.args.block.now c.args.i c.requires.heap c.requires.known c.requires.offset

pub widen-requires-clause-fours : goal.widen-requires-clause-fours
widen-requires-clause-fours c = (c.left_by-hole.ensures.fours, omega (arith, cost-fours c.args.n, c.cost-size.ensures))

pub fill-rest-requires-clause-kept : goal.fill-rest-requires-clause-kept
fill-rest-requires-clause-kept c =
    let k = c.of-chunk.ensures in
    omega (arith, c.left_by-hole.ensures.place, c.in-Some.ensures.at, k.entry, k.wide, k.high, c.widen.auto.block, c.left_by-hole.auto.block)

pub fill-requires-clause-kept : goal.fill-requires-clause-kept
fill-requires-clause-kept c =
    let k = c.of-chunk.ensures in
    omega (arith, c.left_by-hole.ensures.place, k.entry, k.wide, k.high, c.widen.auto.block, c.left_by-hole.auto.block)

pub returns-in-Some : goal.returns-in-Some
returns-in-Some c =
    let b = c.args.block.now in
    let l = c.left_by-hole.new.block in
    let left = c.left_by-hole.ensures in
    let old = entry_bytes (chunks b) c.args.i in
    let x = c.of-chunk.result in
    let k = c.of-chunk.ensures in
    let bytes = left-bytes b l c.args.i c.left_by-hole.result.at x c.requires.known c.requires.offset k left.place.0 left.bytes in
    let w = c.widen.new.block in
    let r = c.in-Some.ensures.room in
    let v = c.in-Some.wide in
    let g = c.give_back.ensures in
    let same = c.in-Some.ensures.at in
    let fits : v.at + 2 + x.len ≤ c.left_by-hole.result.end = omega (arith, same, left.place, k.entry, k.end, k.wide) in
    let inside : v.at + 2 + x.len ≤ length l = omega (arith, same, left.place, k.entry, k.wide, k.high, c.left_by-hole.auto.block) in
    let kept : part w (v.at + 2) x.len ≡ part l (v.at + 2) x.len = part-shifted l w 0 0 v.at c.left_by-hole.result.end
    (v.at + 2) (v.at + 2) x.len r.bytes refl (omega arith) fits inside (omega (arith, inside, c.widen.auto.block)) in
    record {
      heap = g.heap;
      chunks = g.chunks ∙ c.fill-rest.ensures.chunks ∙ ap (λ y. set (chunks w) c.args.i (Some (resized y c.args.n)))
          (kept ∙ ap (λ y. part l (y + 2) x.len) same ∙ bytes) ∙ ap (λ xs. set xs c.args.i (Some (resized old c.args.n))) (r.chunks ∙ left.chunks)
          ∙ set-twice (chunks b) c.args.i None (Some (resized old c.args.n));
      handle = g.handle ∙ c.fill-rest.ensures.handle ∙ r.handle ∙ left.handle;
    }

pub returns-in-None : goal.returns-in-None
returns-in-None c =
    let b = c.args.block.now in
    let i = c.args.i in
    let left = c.left_by-hole.ensures in
    let old = entry_bytes (chunks b) i in
    let x = c.of-chunk.result in
    let k = c.of-chunk.ensures in
    let bytes = left-bytes b c.left_by-hole.new.block i c.left_by-hole.result.at x c.requires.known c.requires.offset k left.place.0 left.bytes in
    let e = c.in-None.ensures.room in
    let f = c.fill.ensures in
    let count = count-chunks b in
    let known = c.requires.known in
    let end_is : c.fill.result.at ≡ c.fill.result.end = omega (arith, f.place, left.place, k.entry, k.end, k.wide) in
    let long : length old ≡ x.len = placed-length b i c.requires.heap known c.requires.offset ∙ sym k.len in
    let here : get_or (chunks b) i None ≡ Some old = chunk-bytes b i known c.requires.offset
    ∙ ap (λ y. Some y) (sym (placed b i known c.requires.offset)) in
    record {
      heap = open-heap c.fill.new.block c.fill.result.link c.fill.result.at
          (subst (λ (y : ℕ). IsOpen c.fill.new.block c.fill.result.link c.fill.result.at y) (sym end_is) f.hole.is);
      chunks = f.chunks ∙ ap (λ y. set (chunks c.widen.new.block) i (Some (resized y x.len)))
          (ap (λ y. part y (c.left_by-hole.result.at + 2) x.len) e ∙ bytes)
          ∙ ap (λ y. set (chunks c.widen.new.block) i (Some y)) (resized-same old x.len long) ∙ ap (λ y. set (chunks y) i (Some old)) e
          ∙ ap (λ xs. set xs i (Some old)) left.chunks ∙ set-twice (chunks b) i None (Some old)
          ∙ set-same (chunks b) i (Some old) None (omega (arith, count)) here;
      handle = f.handle ∙ ap (λ y. word y 0) e ∙ left.handle;
    }

pub fill-rest-requires-clause-hole : goal.fill-rest-requires-clause-hole
fill-rest-requires-clause-hole c = c.in-Some.ensures.room.beside

pub fill-rest-requires-clause-room : goal.fill-rest-requires-clause-room
fill-rest-requires-clause-room c = omega (arith, c.in-Some.ensures.room.room, c.cost-size.ensures)

pub fill-rest-requires-clause-known : goal.fill-rest-requires-clause-known
fill-rest-requires-clause-known c = omega (arith, c.in-Some.ensures.room.count, c.left_by-hole.ensures.count, c.requires.known)

pub fill-rest-requires-clause-free : goal.fill-rest-requires-clause-free
fill-rest-requires-clause-free c = c.in-Some.ensures.room.each c.args.i (omega (arith, c.left_by-hole.ensures.count, c.requires.known))
    ∙ c.left_by-hole.ensures.free

pub give_back-requires-clause-fours : goal.give_back-requires-clause-fours
give_back-requires-clause-fours c = ap (λ x. x % 4) c.fill-rest.ensures.place.2 ∙ c.in-Some.ensures.room.fours

pub fill-requires-clause-known : goal.fill-requires-clause-known
fill-requires-clause-known c = omega (arith, ap entries c.in-None.ensures.room, c.left_by-hole.ensures.count, c.requires.known)

pub fill-requires-clause-free : goal.fill-requires-clause-free
fill-requires-clause-free c = ap (λ b. entry b c.args.i) c.in-None.ensures.room ∙ c.left_by-hole.ensures.free
