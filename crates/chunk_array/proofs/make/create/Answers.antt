use Rattle.std.proofs.Common.{◌≡◌, ℕ, Some, length, replicate, ap, sym, ◌∙◌, subst, arith}
use Rattle.std.proofs.lemmas.List.{length-replicate}
use Rattle.geos_terms.specs.Block.{chunks}
use Rattle.geos_terms.specs.Chunks.{chunk_of, with_new}
use Rattle.geos_terms.specs.Arrays.{empty, spelled}
use Rattle.geos_terms.proofs.ChunkItems.{chunk-new, need-new}
use Rattle.geos_terms.specs.ArrayEdits.{with_array}
use Rattle.lmem_heap.specs.Refusals.{IsRoomError}
use Rattle.chunk_array.proofs.Headers.{length-empty}
use Rattle.chunk_array.proofs.ReadBack.{creates}
use Rattle.chunk_array.proofs.make.create.Goals as goal

pub returns-in-Err-clause-refused : goal.returns-in-Err-clause-refused
returns-in-Err-clause-refused c =
    let cs = chunks c.args.block.now in
    subst (λ (x : ℕ). IsRoomError c.in-Err.room x (length c.args.block.now))
    (sym (need-new cs 8 (spelled (empty c.args.element_size)) (length-empty c.args.element_size))) c.in-Err.ensures.refused

pub put_empty-requires-clause-chunk : goal.put_empty-requires-clause-chunk
put_empty-requires-clause-chunk c =
    let cs = chunks c.args.block.now in
    let there : chunk_of (chunks c.alloc.new.block) c.in-Ok.c ≡ Some (replicate 8 0) = ap (λ xs. chunk_of xs c.in-Ok.c) c.in-Ok.ensures.ok.1
    ∙ ap (λ x. chunk_of (with_new cs 8) x) c.in-Ok.ensures.ok.0 ∙ chunk-new cs 8 in
    rw there (length-replicate {A = ℕ} 8 0)

pub returns-clause-fits : goal.returns-clause-fits
returns-clause-fits c =
    let cs = chunks c.args.block.now in
    omega (arith, need-new cs 8 (spelled (empty c.args.element_size)) (length-empty c.args.element_size), c.in-Ok.ensures.fits)

pub returns-clause-array : goal.returns-clause-array
returns-clause-array c =
    let cs = chunks c.args.block.now in
    let k = c.args.element_size in
    let ok = c.in-Ok.ensures.ok in
    creates k c.in-Ok.c cs (chunks c.put_empty.new.block) ok.0 (c.put_empty.ensures.chunks
    ∙ ap (λ xs. with_array xs c.in-Ok.c (empty k)) ok.1 ∙ ap (λ x. with_array (with_new cs 8) x (empty k)) ok.0)
