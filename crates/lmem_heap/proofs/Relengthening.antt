-- A chunk that gets another length and takes as many bytes of the block.
use Rattle.std.proofs.Common.{◌≡◌, ℕ, ◌+◌, ◌-◌, ◌*◌, ◌<◌, List, Some, None, length, set, replicate, refl, ap, sym, ◌∙◌, subst, arith}
use Rattle.lmem_raw.specs.Bytes.{part, with_part}
use Rattle.geos_terms.specs.Bytes.{with_word}
use Rattle.geos_terms.specs.Chunks.{cost, entry_bytes, resized}
use Rattle.geos_terms.specs.Block.{chunks, entry, entries, table_end}
use Rattle.geos_terms.specs.Heap.{IsHeap, IsOffset}
use Rattle.geos_terms.proofs.Words.{length-with_word, byte-other, part-shifted}
use Rattle.geos_terms.proofs.Lowest.{set-twice}
use Rattle.lmem_heap.specs.Holes.{IsOpen, ResizesChunk}
use Rattle.lmem_heap.specs.declared.extents.Extent.{Extent}
use Rattle.lmem_heap.specs.Extents.{IsExtent}
use Rattle.lmem_heap.specs.Packed.{chunk_length}
use Rattle.lmem_heap.proofs.FreeLists.{open-heap}
use Rattle.lmem_heap.proofs.Filling.{left-hole}
use Rattle.lmem_heap.proofs.Taking.{hole-refilled}
use Rattle.lmem_heap.proofs.Leaving.{left-bytes}

-- it is as if the chunk went and came back with its new length
pub relengthened : (b d c : List ℕ) (i n : ℕ) (x : Extent) → IsHeap b → i < entries b → IsOffset (entry b i)
    → IsExtent b i x → 0 < n → cost n ≡ cost (chunk_length b i) →
    d ≡ with_word b x.begin (n + 2) → c ≡ with_part d (x.begin + 2 + x.len) (replicate (n - x.len) 0) → ResizesChunk b c i n
relengthened b d c i n x heap h t k some same e2 e3 =
    let z = with_word b (16 + 2 * i) 0 in
    let l = left-hole b z i heap h t refl in
    let long = length-with_word b (16 + 2 * i) 0 in
    let begin : entry b i - 2 ≡ x.begin = omega (arith, k.entry) in
    let o : IsOpen z 12 x.begin x.end = subst (λ (y : ℕ). IsOpen z 12 y x.end) begin
    (subst (λ (y : ℕ). IsOpen z 12 (entry b i - 2) y) (sym k.end) l.is) in
    let whole : x.begin + cost n ≡ x.end = omega (arith, same, k.entry, k.end) in
    let f = hole-refilled z b d c 12 x.begin x.end i x.len n o some (omega (arith, whole)) (omega (arith, k.wide, k.high, long))
    (omega (arith, l.count)) l.here
    (sym long) (λ q out. sym (byte-other b (16 + 2 * i) 0 q out)) k.entry e2 e3 in
    let old = entry_bytes (chunks b) i in
    let kept : part z (entry b i) (chunk_length b i) ≡ part b (entry b i) (chunk_length b i) = part-shifted b z 0 0
    (table_end b) (length b) (entry b i) (entry b i) (chunk_length b i) l.bytes refl (omega (arith, l.low))
    (omega (arith, k.len, k.entry, k.wide, k.high)) (omega (arith, k.len, k.entry, k.wide, k.high))
    (omega (arith, k.len, k.entry, k.wide, k.high, long)) in
    record {
      heap = open-heap c 12 x.end (subst (λ (y : ℕ). IsOpen c 12 y x.end) whole f.is);
      chunks = f.chunks ∙ ap (λ y. set (chunks z) i (Some (resized y n))) (left-bytes b z i x.begin x h t k (sym begin) kept)
          ∙ ap (λ xs. set xs i (Some (resized old n))) l.chunks ∙ set-twice (chunks b) i None (Some (resized old n));
      handle = f.handle ∙ l.handle;
    }
