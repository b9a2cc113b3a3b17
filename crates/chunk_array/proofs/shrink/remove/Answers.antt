use Rattle.std.proofs.Common.{◌≡◌, ◌+◌, ◌-◌, Some, ap, sym, ◌∙◌, arith}
use Rattle.lmem_raw.specs.Bytes.{part}
use Rattle.geos_terms.specs.Block.{chunks}
use Rattle.geos_terms.specs.Chunks.{chunk_of, with_bytes, without_part}
use Rattle.geos_terms.specs.Arrays.{spelled, without_element}
use Rattle.geos_terms.specs.ArrayEdits.{with_array}
use Rattle.geos_terms.proofs.ChunkItems.{known-bytes, chunk-written, written-twice}
use Rattle.geos_terms.proofs.ArrayTests.{array-of, element-passes}
use Rattle.chunk_array.proofs.Parting.{parted}
use Rattle.chunk_array.proofs.Parted.{parts}
use Rattle.chunk_array.proofs.ReadBack.{removes}
use Rattle.chunk_array.proofs.Refusing.{can-delete}
use Rattle.chunk_array.proofs.shrink.remove.Goals as goal

pub take_element-requires-clause-part : goal.take_element-requires-clause-part
take_element-requires-clause-part c =
    let f = c.in-Ok.ensures in
    let a = f.is.shape.array in
    let e = c.place-element in
    let h = parted c.args.block.now c.args.chunk c.args.index c.in-Ok.found f e.result c.requires e.ensures.index
    (e.ensures.begin a f.is.shape.is) (e.ensures.end a f.is.shape.is) in
    rw f.is.bytes (record { array = a; has = h })

pub overflow_sub-end : goal.overflow_sub-end
overflow_sub-end c =
    let found = c.in-Ok.found in
    let f = c.in-Ok.ensures in
    let a = f.is.shape.array in
    let e = c.place-element in
    let h = parted c.args.block.now c.args.chunk c.args.index found f e.result c.requires e.ensures.index
    (e.ensures.begin a f.is.shape.is) (e.ensures.end a f.is.shape.is) in
    omega (arith, (parts (part c.args.block.now found.at found.len) a found.shape e.result h).fits, c.room-room.ensures.value)

pub unreachable-requires : goal.unreachable-requires
unreachable-requires c =
    let b = c.args.block.now in
    let found = c.in-Ok.found in
    let f = c.in-Ok.ensures in
    let a = f.is.shape.array in
    let bytes = part b found.at found.len in
    let e = c.place-element in
    let end = e.result.begin + e.result.len in
    let d = c.take_element.new.block in
    let h = parted b c.args.chunk c.args.index found f e.result c.requires e.ensures.index (e.ensures.begin a f.is.shape.is)
    (e.ensures.end a f.is.shape.is) in
    let p = parts bytes a found.shape e.result h in
    let x = c.take_element.ensures.chunks bytes a f.is.bytes h in
    let there : chunk_of (chunks d) c.args.chunk ≡ Some x.bytes = ap (λ xs. chunk_of xs c.args.chunk) x.chunks
    ∙ chunk-written (chunks b) c.args.chunk bytes x.bytes f.is.bytes in
    can-delete c.in-Err-delete.field-0 (chunks d) c.args.chunk (end - c.room-room.result) c.room-room.result x.bytes there
    (omega (arith, p.fits, p.within, c.room-room.ensures.value, x.long)) c.in-Err-delete.ensures.refused

pub returns-clause-ok : goal.returns-clause-ok
returns-clause-ok c =
    let b = c.args.block.now in
    let found = c.in-Ok.found in
    let f = c.in-Ok.ensures in
    let a = f.is.shape.array in
    let bytes = part b found.at found.len in
    let e = c.place-element in
    let end = e.result.begin + e.result.len in
    let room = c.room-room.result in
    let d = c.take_element.new.block in
    let h = parted b c.args.chunk c.args.index found f e.result c.requires e.ensures.index (e.ensures.begin a f.is.shape.is)
    (e.ensures.end a f.is.shape.is) in
    let x = c.take_element.ensures.chunks bytes a f.is.bytes h in
    let there : chunk_of (chunks d) c.args.chunk ≡ Some x.bytes = ap (λ xs. chunk_of xs c.args.chunk) x.chunks
    ∙ chunk-written (chunks b) c.args.chunk bytes x.bytes f.is.bytes in (
      element-passes (chunks b) c.args.chunk bytes a f.is.bytes f.is.shape.is c.args.index
          (omega (arith, (parts bytes a found.shape e.result h).index, e.ensures.index)),
      c.in-Ok-delete.ensures.ok.2 ∙ ap (λ y. with_bytes (chunks d) c.args.chunk (without_part y (end - room) room))
          (known-bytes (chunks d) c.args.chunk x.bytes there)
          ∙ ap (with_bytes (chunks d) c.args.chunk) (x.spells.rest room c.room-room.ensures.value)
          ∙ ap (λ xs. with_bytes xs c.args.chunk (spelled (without_element a e.result.index))) x.chunks
          ∙ written-twice (chunks b) c.args.chunk x.bytes (spelled (without_element a e.result.index))
          ∙ ap (λ k. with_array (chunks b) c.args.chunk (without_element a k)) e.ensures.index
          ∙ sym (ap (λ y. with_array (chunks b) c.args.chunk (without_element y c.args.index))
          (array-of (chunks b) c.args.chunk bytes a f.is.bytes f.is.shape.is)),
    )

pub returns-clause-array : goal.returns-clause-array
returns-clause-array c = let ok = returns-clause-ok c in removes (chunks c.args.block.now) (chunks c.delete.new.block)
    c.args.chunk c.args.index ok.0 ok.1
