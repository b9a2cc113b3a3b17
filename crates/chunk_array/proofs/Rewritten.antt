-- A chunk's bytes that are written over.
use Rattle.std.proofs.Common.{◌≡◌, ℕ, ◌+◌, ◌-◌, ◌<◌, ◌≤◌, List, ◌++◌, Option, Some, None, length, take, drop, get_or, ap, sym, ◌∙◌, subst, arith, length-take, length-drop}
use Rattle.std.proofs.lemmas.List.{get_or-take, get_or-drop, get_or_past}
use Rattle.std.proofs.lemmas.Bool.{cases_lt}
use Rattle.std.proofs.Common.{inl, inr}
use Rattle.lmem_raw.specs.Bytes.{part, with_part}
use Rattle.lmem_raw.proofs.Parts.{with_whole}
use Rattle.geos_terms.specs.Block.{Place, chunks, handle_word, place_of, bytes_at, IsPlaced}
use Rattle.std.specs.Option.{option_map}
use Rattle.geos_terms.specs.Chunks.{with_bytes, chunk_of}
use Rattle.geos_terms.proofs.Places.{chunk-place}
use Rattle.geos_terms.specs.Heap.{IsHeap}
use Rattle.geos_terms.specs.Writes.{ChangesChunk}
use Rattle.geos_terms.proofs.Parts.{put_over}
use Rattle.geos_terms.proofs.Resizes.{length-part}
use Rattle.geos_terms.proofs.Writes.{writes-stay}

-- a heap with other bytes as the chunk of a handle
pub record Rewrites (b d : List ℕ) (c : ℕ) (xs : List ℕ) : Type 0 where
  pub heap : IsHeap d
  pub handle : handle_word d ≡ handle_word b
  pub chunks : chunks d ≡ with_bytes (chunks b) c xs

-- the bytes of a chunk are those that a range of the block has
pub range-bytes : (b : List ℕ) (at len : ℕ) (bytes : List ℕ) → Some bytes ≡ Some (part b at len) → bytes ≡ part b at (at + len - at)
range-bytes b at len bytes is =
    let same : bytes ≡ part b at len = cc in
    let long : len ≡ at + len - at = omega arith in
    same ∙ ap (part b at) long

-- the whole place of a chunk is written over, as a range of the block
pub rewritten : (b : List ℕ) (c at len : ℕ) (xs : List ℕ) → IsHeap b → IsPlaced b c at len → at + len ≤ length b
    → length xs ≡ length (part b at (at + len - at)) → Rewrites b (take at b ++ (xs ++ drop (at + len - at) (drop at b))) c xs
rewritten b c at len xs heap placed within same_length =
    let p : Place = record { at = at; len = len } in
    let is : at + len - at ≡ len = omega arith in
    let start : at + 0 ≡ at = omega arith in
    let long : length xs ≡ len = same_length ∙ ap (λ n. length (part b at n)) is ∙ length-part b at len within in
    let d = subst (λ (m : ℕ). ChangesChunk b (with_part b m xs) c p 0 xs) start (writes-stay b c p 0 xs heap placed (omega arith)) in
    let whole : with_part (bytes_at b p) 0 xs ≡ xs = with_whole (bytes_at b p) xs (long ∙ sym (length-part b at len within)) in
    subst (λ (x : List ℕ). Rewrites b x c xs) (sym (put_over b at (at + len - at) len xs within is long))
    (record { heap = d.heap; handle = d.handle; chunks = d.chunks ∙ ap (with_bytes (chunks b) c) whole })

-- bytes of a block are bytes
pub part-small : (b : List ℕ) (at len : ℕ) → ((k : ℕ) → get_or b k 0 < 256) → (k : ℕ) → get_or (part b at len) k 0 < 256
part-small b at len small k = elim (cases_lt k len) [
  | inl h ↦ (let e = get_or-take len (drop at b) k 0 h ∙ get_or-drop at b k 0 in omega (arith, e, small (at + k)))
  | inr h ↦ (let e = get_or_past (part b at len) k 0 (omega (arith, length-take len (drop at b))) in omega (arith, e))
]

-- a chunk of a heap is no longer than its block
pub chunk-small : (b : List ℕ) (c : ℕ) (bytes : List ℕ) → IsHeap b → chunk_of (chunks b) c ≡ Some bytes → length bytes ≤ 65520
chunk-small b c bytes heap h = placed (place_of b c) (sym (chunk-place b c) ∙ h)
  where
    placed : (p : Option Place) → option_map (bytes_at b) p ≡ Some bytes → length bytes ≤ 65520
    placed None e = absurd (cc)
    placed (Some p) e = let same : part b p.at p.len ≡ bytes = cc in let l = ap length same in
        omega (arith, l, heap.0.most, length-take p.len (drop p.at b), length-drop p.at b)
