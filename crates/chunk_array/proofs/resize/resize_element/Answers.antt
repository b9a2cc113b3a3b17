use Rattle.std.proofs.Common.{ℕ, [], ◌∷◌, length, ap, sym, ◌∙◌, subst, arith}
use Rattle.lmem_raw.specs.Bytes.{part}
use Rattle.geos_terms.specs.Block.{chunks}
use Rattle.geos_terms.specs.Chunks.{bytes_of, with_resized_part}
use Rattle.geos_terms.specs.Arrays.{spelled}
use Rattle.geos_terms.specs.ArrayEdits.{is_fixed, is_past, no_array, with_array}
use Rattle.geos_terms.proofs.ArrayTests.{fixed-refused}
use Rattle.geos_terms.proofs.ChunkItems.{written-twice}
use Rattle.lmem_heap.specs.Refusals.{IsRoomError}
use Rattle.chunk_array.specs.ArrayErrors.{IsArrayError}
use Rattle.chunk_array.specs.Refits.{with_refit}
use Rattle.chunk_array.proofs.ReadBack.{resizes}
use Rattle.chunk_array.proofs.Refusing.{first-stays}
use Rattle.chunk_array.proofs.Resizing.{passes, same, changed-need, refits}
use Rattle.chunk_array.proofs.resize.resize_element.Goals as goal

pub returns-in-Err-clause-refused : goal.returns-in-Err-clause-refused
returns-in-Err-clause-refused c =
    let b = c.args.block.now in
    let f = c.in-Ok.ensures in
    let a = f.shape.array in
    let e = c.place-element in (
      passes b c.args.chunk c.in-Ok.found f c.args.index c.args.len e.result c.if-found-ne0.false c.if-index-found.false
          e.ensures.index (e.ensures.begin a f.shape.is) (e.ensures.end a f.shape.is),
      subst (λ (x : ℕ). IsRoomError c.in-Err.room x (length b))
          (changed-need b c.args.chunk c.in-Ok.found f c.args.index c.args.len e.result c.if-found-ne0.false
          c.if-index-found.false e.ensures.index (e.ensures.begin a f.shape.is) (e.ensures.end a f.shape.is)) c.in-Err.ensures.refused,
    )

pub put_offsets-requires-clause-refit : goal.put_offsets-requires-clause-refit
put_offsets-requires-clause-refit c =
    let f = c.in-Ok.ensures in
    let e = c.place-element in
    let made = c.in-Ok-resize_part.ensures in
    let r = refits c.args.block.now c.args.chunk c.in-Ok.found f c.args.index c.args.len e.result c.if-found-ne0.false
    c.if-index-found.false e.ensures.index (e.ensures.begin f.shape.array f.shape.is) (e.ensures.end f.shape.array f.shape.is)
    c.resize_part.new.block made.heap made.ok in
    rw r.0 (record { before = part c.args.block.now c.in-Ok.found.at c.in-Ok.found.len; array = f.shape.array; has_refit = r.1 })

pub returns-clause-ok : goal.returns-clause-ok
returns-clause-ok c =
    let b = c.args.block.now in
    let found = c.in-Ok.found in
    let f = c.in-Ok.ensures in
    let a = f.shape.array in
    let e = c.place-element in
    let made = c.in-Ok-resize_part.ensures in
    let cs = chunks b in
    let bytes = part b found.at found.len in
    let index = e.ensures.index in
    let from = e.ensures.begin a f.shape.is in
    let to = e.ensures.end a f.shape.is in
    let none = c.if-found-ne0.false in
    let known = c.if-index-found.false in
    let r = refits b c.args.chunk found f c.args.index c.args.len e.result none known index from to c.resize_part.new.block made.heap made.ok in (
      passes b c.args.chunk found f c.args.index c.args.len e.result none known index from to,
      c.put_offsets.ensures.chunks (with_resized_part bytes e.result.begin e.result.len c.args.len) bytes a r.0 r.1
          ∙ ap (λ xs. with_array xs c.args.chunk (with_refit a e.result.index c.args.len)) made.ok
          ∙ written-twice cs c.args.chunk (with_resized_part (bytes_of cs c.args.chunk) e.result.begin e.result.len c.args.len)
          (spelled (with_refit a e.result.index c.args.len))
          ∙ ap (λ k. with_array cs c.args.chunk (with_refit a k c.args.len)) index
          ∙ sym (same b c.args.chunk found f c.args.index c.args.len e.result none known index from to),
    )

pub returns-clause-fits : goal.returns-clause-fits
returns-clause-fits c =
    let f = c.in-Ok.ensures in
    let e = c.place-element in
    let changed = changed-need c.args.block.now c.args.chunk c.in-Ok.found f c.args.index c.args.len e.result
    c.if-found-ne0.false c.if-index-found.false e.ensures.index (e.ensures.begin f.shape.array f.shape.is)
    (e.ensures.end f.shape.array f.shape.is) in
    omega (arith, changed, c.in-Ok-resize_part.ensures.fits)

pub returns-clause-array : goal.returns-clause-array
returns-clause-array c = let ok = returns-clause-ok c in resizes (chunks c.args.block.now) (chunks c.put_offsets.new.block)
    c.args.chunk c.args.index c.args.len ok.0 ok.1

pub returns-in-Err-BadChunk-clause-refused : goal.returns-in-Err-BadChunk-clause-refused
returns-in-Err-BadChunk-clause-refused c =
    let cs = chunks c.args.block.now in
    let tests = no_array cs c.args.chunk in
    first-stays tests (is_fixed cs c.args.chunk ∷ is_past cs c.args.chunk c.args.index ∷ []) _
    (subst (λ e. IsArrayError e tests) c.in-Err-BadChunk.field-0-is c.in-Err-BadChunk.ensures)

pub returns-in-Err-BadArray-clause-refused : goal.returns-in-Err-BadArray-clause-refused
returns-in-Err-BadArray-clause-refused c =
    let cs = chunks c.args.block.now in
    let tests = no_array cs c.args.chunk in
    first-stays tests (is_fixed cs c.args.chunk ∷ is_past cs c.args.chunk c.args.index ∷ []) _
    (subst (λ e. IsArrayError e tests) c.in-Err-BadArray.field-0-is c.in-Err-BadArray.ensures)

pub returns-then-found-ne0-clause-refused : goal.returns-then-found-ne0-clause-refused
returns-then-found-ne0-clause-refused c =
    let cs = chunks c.args.block.now in
    let found = c.in-Ok.found in
    let f = c.in-Ok.ensures in
    fixed-refused cs c.args.chunk (part c.args.block.now found.at found.len) f.shape.array f.bytes f.shape.is
    (is_past cs c.args.chunk c.args.index ∷ []) (λ e. c.if-found-ne0.true (sym f.shape.size ∙ e))
