-- Chunks that are taken out of a list of chunks, and come back.
use Rattle.std.proofs.Common.{◌≡◌, ℕ, zero, suc, ◌<◌, List, [], ◌∷◌, None, length, get_or, set, unwrap_or, refl, ap, sym, ◌∙◌, arith, length-set, get_or-set_same}
use Rattle.std.proofs.lemmas.Grind.{same_number_lists}
use Rattle.lmem_raw.specs.Bytes.{part}
use Rattle.geos_terms.specs.Chunks.{resized, entry_bytes}
use Rattle.geos_terms.specs.Block.{entry, entries, chunks}
use Rattle.geos_terms.specs.Heap.{IsHeap, IsOffset}
use Rattle.geos_terms.proofs.Sums.{count-chunks}
use Rattle.geos_terms.proofs.Entries.{chunks-at, chunk-nothing}
use Rattle.geos_terms.proofs.Resizes.{length-resized, get_or-resized, length-part}
use Rattle.geos_terms.proofs.Lowest.{unused, in-use-same}
use Rattle.lmem_heap.specs.Packed.{chunk_length}
use Rattle.lmem_heap.proofs.Edits.{chunk-bytes}
use Rattle.lmem_heap.proofs.Extending.{heap-extent}

-- bytes that get the length they have
pub resized-same : (bs : List ℕ) (n : ℕ) → length bs ≡ n → resized bs n ≡ bs
resized-same bs n e = same_number_lists (resized bs n) bs (length-resized bs n ∙ sym e)
    (λ k l. get_or-resized bs n k (omega (arith, l, length-resized bs n)))

-- an item that is written again
pub set-same : {A : Type 0} (xs : List A) (i : ℕ) (x d : A) → i < length xs → get_or xs i d ≡ x → set xs i x ≡ xs
set-same [] i x d h e = refl
set-same (y ∷ xs) zero x d h e = ap (λ z. z ∷ xs) (sym e)
set-same (y ∷ xs) (suc i) x d h e = ap (λ zs. y ∷ zs) (set-same xs i x d (omega arith) e)

-- an entry whose chunk went is not in use
pub freed : (b d : List ℕ) (i : ℕ) → i < entries b → chunks d ≡ set (chunks b) i None → (i < entries d) × (entry d i ≡ 0)
freed b d i h is =
    let count = count-chunks b in
    let n : entries d ≡ entries b = sym (count-chunks d) ∙ ap length is ∙ length-set (chunks b) i None ∙ count in
    let l : i < entries d = omega (arith, n) in
    (l, unused d i l (ap (λ xs. get_or xs i None) is ∙ get_or-set_same (chunks b) i None None (omega (arith, count))))

-- the bytes of an entry whose chunk has a place
pub placed : (b : List ℕ) (i : ℕ) → i < entries b → IsOffset (entry b i) → entry_bytes (chunks b) i ≡ part b (entry b i) (chunk_length b i)
placed b i h t = ap (λ x. unwrap_or x []) (chunk-bytes b i h t)

pub placed-length : (b : List ℕ) (i : ℕ) → IsHeap b → i < entries b → IsOffset (entry b i) → length (entry_bytes (chunks b) i) ≡ chunk_length b i
placed-length b i heap h t =
    let k = (heap-extent b i heap h t).is in
    ap length (placed b i h t) ∙ length-part b (entry b i) (chunk_length b i) (omega (arith, k.entry, k.len, k.wide, k.high))

-- an entry that is an offset is one in a block with the same chunks
pub offset-same : (b d : List ℕ) (i : ℕ) → IsHeap b → chunks d ≡ chunks b → i < entries b → IsOffset (entry b i)
    → (i < entries d) × IsOffset (entry d i)
offset-same b d i heap same h t =
    let u = in-use-same b d i same h t.0 in
    let k = (heap-extent b i heap h t).is in (
      u.0,
      (
        u.1,
        (λ e. let nothing : entry_bytes (chunks d) i ≡ [] = ap (λ x. unwrap_or x []) (chunks-at d i u.0 ∙ chunk-nothing d (entry d i) e) in
            let long = sym (ap (λ xs. length (entry_bytes xs i)) same) ∙ ap length nothing in
            absurd (omega (arith, long, placed-length b i heap h t, k.len, k.wide))),
      ),
    )
