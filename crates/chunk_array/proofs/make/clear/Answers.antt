use Rattle.std.proofs.Common.{◌≡◌, ℕ, ◌+◌, ◌-◌, ◌≤◌, List, [], Some, length, take, drop, ap, sym, ◌∙◌, arith, length-append, length-take, length-drop}
use Rattle.lmem_raw.specs.Bytes.{part}
use Rattle.geos_terms.specs.Block.{chunks}
use Rattle.geos_terms.specs.Chunks.{chunk_of, bytes_of, without_part}
use Rattle.geos_terms.specs.Arrays.{Array, empty, spelled}
use Rattle.geos_terms.specs.ArrayEdits.{with_array}
use Rattle.geos_terms.proofs.ChunkItems.{known-bytes, chunk-written, written-twice}
use Rattle.geos_terms.proofs.ArrayTests.{array-of, array-passes}
use Rattle.chunk_array.proofs.Shaped.{holds}
use Rattle.chunk_array.proofs.ReadBack.{clears}
use Rattle.chunk_array.proofs.Refusing.{can-delete}
use Rattle.chunk_array.proofs.make.clear.Goals as goal

pub overflow_sub-found : goal.overflow_sub-found
overflow_sub-found c = c.in-Ok.ensures.least

pub unreachable-requires : goal.unreachable-requires
unreachable-requires c =
    let b = c.args.block.now in
    let found = c.in-Ok.found in
    let h = holds b c.args.chunk found c.in-Ok.ensures in
    can-delete c.in-Err-delete.field-0 (chunks b) c.args.chunk 8 (found.len - 8) (part b found.at found.len) h.there
    (omega (arith, h.long, c.in-Ok.ensures.least)) c.in-Err-delete.ensures.refused

length-cut : (bytes : List ℕ) (len : ℕ) → length bytes ≡ len → 8 ≤ len → length (without_part bytes 8 (len - 8)) ≡ 8
length-cut bytes len e h = omega (
  arith,
  length-append (take 8 bytes) (drop (8 + (len - 8)) bytes),
  length-take 8 bytes,
  length-drop (8 + (len - 8)) bytes,
)

pub put_empty-requires-clause-chunk : goal.put_empty-requires-clause-chunk
put_empty-requires-clause-chunk c =
    let b = c.args.block.now in
    let found = c.in-Ok.found in
    let h = holds b c.args.chunk found c.in-Ok.ensures in
    let cs = chunks b in
    let bytes = part b found.at found.len in
    let cut = without_part (bytes_of cs c.args.chunk) 8 (found.len - 8) in
    let there : chunk_of (chunks c.delete.new.block) c.args.chunk ≡ Some cut = ap (λ xs. chunk_of xs c.args.chunk) c.in-Ok-delete.ensures.ok.2
    ∙ chunk-written cs c.args.chunk bytes cut h.there in
    rw there (ap (λ x. length (without_part x 8 (found.len - 8))) (known-bytes cs c.args.chunk bytes h.there)
    ∙ length-cut bytes found.len h.long c.in-Ok.ensures.least)

pub returns-clause-ok : goal.returns-clause-ok
returns-clause-ok c =
    let b = c.args.block.now in
    let found = c.in-Ok.found in
    let h = holds b c.args.chunk found c.in-Ok.ensures in
    let cs = chunks b in
    let bytes = part b found.at found.len in
    let a = c.in-Ok.ensures.shape.array in
    let same = array-of cs c.args.chunk bytes a h.there h.is in
    let size = ap (λ (x : Array). x.element_size) same ∙ h.shaped.size in (
      array-passes cs c.args.chunk bytes a h.there h.is [],
      c.put_empty.ensures.chunks ∙ ap (λ xs. with_array xs c.args.chunk (empty found.shape.element_size)) c.in-Ok-delete.ensures.ok.2
          ∙ written-twice cs c.args.chunk (without_part (bytes_of cs c.args.chunk) 8 (found.len - 8)) (spelled (empty found.shape.element_size))
          ∙ ap (λ k. with_array cs c.args.chunk (empty k)) (sym size),
    )

pub returns-clause-array : goal.returns-clause-array
returns-clause-array c = let ok = returns-clause-ok c in clears (chunks c.args.block.now) (chunks c.put_empty.new.block) c.args.chunk ok.0 ok.1
