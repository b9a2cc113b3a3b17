-- A chunk that is read, and moves into a hole.
use Rattle.std.proofs.Common.{◌≡◌, ℕ, ◌+◌, ◌-◌, ◌*◌, ◌<◌, ◌≤◌, ◌⊎◌, List, length, min, replicate, sym, subst, inl, inr, arith}
use Rattle.std.proofs.lemmas.Bool.{cases_lt}
use Rattle.lmem_raw.specs.Bytes.{part, with_part}
use Rattle.geos_terms.specs.Bytes.{with_word}
use Rattle.geos_terms.specs.Chunks.{cost, resized}
use Rattle.geos_terms.specs.Block.{entry, entries}
use Rattle.geos_terms.specs.Heap.{IsOffset}
use Rattle.geos_terms.proofs.Costs.{cost-least}
use Rattle.lmem_heap.specs.declared.extents.Extent.{Extent}
use Rattle.lmem_heap.specs.Extents.{HasExtent, IsExtent}
use Rattle.lmem_heap.specs.Holes.{IsOpen}
use Rattle.lmem_heap.specs.Packed.{chunk_length}
use Rattle.lmem_heap.proofs.Extending.{lies-there}
use Rattle.lmem_heap.proofs.FreeLists.{open-place}
use Rattle.lmem_heap.proofs.Moving.{Redirects, aside, moved-in-hole}

-- where the chunk of an entry lies, in a block with a hole
pub open-extent : (b : List ℕ) (link at end i : ℕ) → IsOpen b link at end → i < entries b → IsOffset (entry b i) → HasExtent b i
open-extent b link at end i o h t = let a = aside b link at end i o h t in lies-there b i h a.some a.low a.high (open-place b link at end o).most

-- the hole has room for the bytes of a chunk that fills it
pub open-room : (b : List ℕ) (link at end n : ℕ) → IsOpen b link at end → 0 < n → at + cost n ≡ end → (at + 2 + n ≤ length b) × (length b ≤ 65520)
open-room b link at end n o some fits = let p = open-place b link at end o in (omega (arith, cost-least n some, p.high, fits), p.most)

-- what the writes leave
pub moved-in : (b d1 d2 d3 c : List ℕ) (link at end i keep n : ℕ) (x : Extent) → IsOpen b link at end → i < entries b
    → IsOffset (entry b i) → IsExtent b i x → 0 < n → at + cost n ≡ end → keep ≡ min x.len n →
    d1 ≡ with_word b (16 + 2 * i) (at + 2) → d2 ≡ with_word d1 at (n + 2) → d3 ≡ with_part d2 (at + 2) (part d2 (x.begin + 2) keep)
    → c ≡ with_part d3 (at + 2 + keep) (replicate (n - keep) 0) →
    Redirects b c i (resized (part b (entry b i) (chunk_length b i)) n)
moved-in b d1 d2 d3 c link at end i keep n x o h t k some fits least e1 e2 e3 e4 =
    let exact : (n ≤ keep) ⊎ (chunk_length b i ≤ keep) = elim (cases_lt n (chunk_length b i))
    [ inl l ↦ inl (omega (arith, least, k.len, l)) | inr g ↦ inr (omega (arith, least, k.len, g)) ] in
    moved-in-hole b d1 d2 d3 c link at end i keep n o h t some fits (omega (arith, least)) (omega (arith, least, k.len))
    exact e1 e2 (subst (λ (y : ℕ). d3 ≡ with_part d2 (at + 2) (part d2 y keep)) (sym k.entry) e3) e4
