-- What stays of a chunk of a heap that goes.
use Rattle.std.proofs.Common.{◌≡◌, ℕ, ◌+◌, ◌-◌, ◌<◌, List, ap, sym, ◌∙◌, arith}
use Rattle.lmem_raw.specs.Bytes.{part}
use Rattle.geos_terms.specs.Chunks.{entry_bytes}
use Rattle.geos_terms.specs.Block.{chunks, entry, entries}
use Rattle.geos_terms.specs.Heap.{IsOffset}
use Rattle.lmem_heap.specs.declared.extents.Extent.{Extent}
use Rattle.lmem_heap.specs.Packed.{chunk_length}
use Rattle.lmem_heap.specs.Extents.{IsExtent}
use Rattle.lmem_heap.proofs.Refits.{placed}

-- its bytes, in the hole that it left
pub left-bytes : (b d : List ℕ) (i at : ℕ) (x : Extent) → i < entries b → IsOffset (entry b i) → IsExtent b i x → at ≡ entry b i - 2 →
    part d (entry b i) (chunk_length b i) ≡ part b (entry b i) (chunk_length b i) → part d (at + 2) x.len ≡ entry_bytes (chunks b) i
left-bytes b d i at x h t k at_is same =
    let begin : at + 2 ≡ entry b i = omega (arith, at_is, k.entry) in
    ap (λ y. part d y x.len) begin ∙ ap (part d (entry b i)) k.len ∙ same ∙ sym (placed b i h t)
