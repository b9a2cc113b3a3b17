use Rattle.std.proofs.Common.{ℕ, length, ap, sym, ◌∙◌, subst, arith}
use Rattle.lmem_raw.specs.Bytes.{part}
use Rattle.geos_terms.specs.Block.{chunks}
use Rattle.geos_terms.specs.Chunks.{need, with_inserted, with_zeros, bytes_of}
use Rattle.geos_terms.specs.Arrays.{spelled, with_element}
use Rattle.geos_terms.specs.ArrayEdits.{array_of, with_array}
use Rattle.geos_terms.proofs.ChunkItems.{written-twice}
use Rattle.lmem_heap.specs.Refusals.{IsRoomError, IsInsertError}
use Rattle.chunk_array.specs.Insertions.{room_of}
use Rattle.chunk_array.proofs.Growing.{grown, grown-need, grown-big, roomy}
use Rattle.chunk_array.proofs.grow.insert_at.Goals as goal

pub returns-then-room-gt65535-clause-refused : goal.returns-then-room-gt65535-clause-refused
returns-then-room-gt65535-clause-refused c =
    let f = c.requires.found in
    grown-big c.args.block.now c.args.chunk c.args.found f c.args.index c.start-at.result c.args.len c.requires.known
    (c.start-at.ensures.start f.shape.array f.shape.is) (omega (arith, c.room-room.ensures.value, c.if-room-gt65535.true))

pub returns-in-Err-Room-clause-refused : goal.returns-in-Err-Room-clause-refused
returns-in-Err-Room-clause-refused c =
    let b = c.args.block.now in
    let f = c.requires.found in
    let at = c.start-at.result in
    let first = subst (λ e. IsInsertError e (chunks b) (length b) c.args.chunk at c.room-room.result) c.in-Err-Room.field-0-is
    c.in-Err-Room.ensures.refused in
    let same = ap (λ m. need (with_inserted (chunks b) c.args.chunk at m)) c.room-room.ensures.value
    ∙ grown-need b c.args.chunk c.args.found f c.args.index at c.args.len c.requires.known (c.start-at.ensures.start f.shape.array f.shape.is) in
    subst (λ x. IsRoomError x (need (with_array (chunks b) c.args.chunk (with_element (array_of (chunks b) c.args.chunk) c.args.index c.args.len)))
    (length b)) (sym c.in-Err-Room.room-is) (subst (λ (x : ℕ). IsRoomError c.in-Err-Room.room x (length b)) same first.2)

pub put_element-requires-clause-room : goal.put_element-requires-clause-room
put_element-requires-clause-room c =
    let b = c.args.block.now in
    let f = c.requires.found in
    let made = c.in-Ok.ensures.ok.2 ∙ ap (with_inserted (chunks b) c.args.chunk c.start-at.result) c.room-room.ensures.value in
    let r = roomy b c.args.chunk c.args.found f c.args.index c.start-at.result c.args.len c.requires.known
    (c.start-at.ensures.start f.shape.array f.shape.is) c.insert.new.block c.in-Ok.ensures.heap made in
    rw r.0 (record { before = part b c.args.found.at c.args.found.len; array = f.shape.array; has = r.1 })

pub returns-clause-ok : goal.returns-clause-ok
returns-clause-ok c =
    let b = c.args.block.now in
    let found = c.args.found in
    let f = c.requires.found in
    let at = c.start-at.result in
    let room = room_of found.shape.element_size c.args.len in
    let is = c.start-at.ensures.start f.shape.array f.shape.is in
    let made = c.in-Ok.ensures.ok.2 ∙ ap (with_inserted (chunks b) c.args.chunk at) c.room-room.ensures.value in
    let r = roomy b c.args.chunk found f c.args.index at c.args.len c.requires.known is c.insert.new.block c.in-Ok.ensures.heap made in
    let bytes = part b found.at found.len in
    c.put_element.ensures.chunks (with_zeros bytes at room) bytes f.shape.array r.0 r.1
    ∙ ap (λ xs. with_array xs c.args.chunk (with_element f.shape.array c.args.index c.args.len)) made
    ∙ written-twice (chunks b) c.args.chunk (with_zeros (bytes_of (chunks b) c.args.chunk) at room)
    (spelled (with_element f.shape.array c.args.index c.args.len))
    ∙ sym (grown b c.args.chunk found f c.args.index at c.args.len c.requires.known is)

pub returns-clause-fits : goal.returns-clause-fits
returns-clause-fits c =
    let f = c.requires.found in
    let same = ap (λ m. need (with_inserted (chunks c.args.block.now) c.args.chunk c.start-at.result m)) c.room-room.ensures.value
    ∙ grown-need c.args.block.now c.args.chunk c.args.found f c.args.index c.start-at.result c.args.len c.requires.known
    (c.start-at.ensures.start f.shape.array f.shape.is) in
    omega (arith, same, c.in-Ok.ensures.fits)
