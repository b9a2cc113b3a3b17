-- Packed heaps are the compact ones.
use Rattle.std.proofs.Common.{◌≡◌, ◌≢◌, ℕ, ◌+◌, ◌%◌, ◌≤◌, List, [], ◌∷◌, ◌++◌, None, get_or, ◌<◌, length, refl, ap, sym, ◌∙◌, subst, inl, inr, arith}
use Rattle.std.proofs.lemmas.Bool.{cases_eq}
use Rattle.geos_terms.specs.Bytes.{word}
use Rattle.geos_terms.specs.Chunks.{used_bytes}
use Rattle.geos_terms.specs.Block.{chunks, entries, entry, table_end, first_free, total_free}
use Rattle.geos_terms.proofs.Lowest.{block-used, entries-same, unused}
use Rattle.geos_terms.proofs.Entries.{chunks-at, chunk-none}
use Rattle.geos_terms.specs.Heap.{Piece, Free, Tiles, HasChunk, free_bytes, IsHeap, IsCompact}
use Rattle.geos_terms.proofs.Pieces.{tiles-le, tiles-join, has-split, has-left, free_bytes-append}
use Rattle.geos_terms.proofs.FreePieces.{first-piece, none-free, used-free, used-any, nothing-left}
use Rattle.lmem_heap.specs.Holes.{FirstIsSmaller}
use Rattle.lmem_heap.specs.Packed.{IsPacked, chunks_end}

packed-full : (b : List ℕ) → IsHeap b → first_free b ≡ 0 → IsPacked b
packed-full b heap none =
    let st : Tiles b (table_end b) 0 heap.1.0 (length b) 0 = subst (λ (x : ℕ). Tiles b (table_end b) x heap.1.0 (length b) 0) none heap.1.1.tiles in
    let used = none-free b (table_end b) heap.1.0 (length b) (omega arith) st in
    let z : total_free b ≡ 0 = heap.1.1.total ∙ used-free heap.1.0 used in
    record {
      header = heap.0;
      pre = heap.1.0;
      at = length b;
      used = used;
      tiles = st;
      room = omega (arith, z);
      fours = ap (λ x. x % 4) z;
      all = heap.1.1.all;
      ends = record { none = (λ e. none); some = (λ h. absurd (omega (arith, z))) };
    }

packed-tail : (b : List ℕ) → IsHeap b → first_free b ≢ 0 → first_free b + word b (first_free b) ≡ length b → IsPacked b
packed-tail b heap ne last =
    let f = first_free b in
    let r = first-piece b (table_end b) f heap.1.0 (length b) heap.1.1.tiles ne in
    let size : word b f ≡ r.s = r.here.3 in
    let rest : r.rest ≡ [] = nothing-left b (f + r.s) (word b (f + 2)) r.rest (length b) 0 (omega (arith, last, size)) r.here.5 in
    let is : heap.1.0 ≡ r.pre ++ (Free r.s ∷ []) = r.is ∙ ap (λ xs. r.pre ++ (Free r.s ∷ xs)) rest in
    let total : total_free b ≡ r.s = (let e = heap.1.1.total ∙ ap free_bytes is ∙ free_bytes-append r.pre (Free r.s ∷ []) in
    omega (arith, e, used-free r.pre r.used)) in
    let next : word b (f + 2) ≡ 0 = (let t : Tiles b (f + r.s) (word b (f + 2)) [] (length b) 0 =
    subst (λ (ps : List Piece). Tiles b (f + r.s) (word b (f + 2)) ps (length b) 0) rest r.here.5 in t.1) in
    record {
      header = heap.0;
      pre = r.pre;
      at = f;
      used = r.used;
      tiles = used-any b (table_end b) f 0 r.pre f f r.used r.before;
      room = omega (arith, last, size, total);
      fours = ap (λ x. x % 4) total ∙ r.here.1;
      all = (λ i h t. elim (has-split i r.pre (Free r.s ∷ []) (subst (λ (ps : List Piece). HasChunk i ps) is (heap.1.1.all i h t)))
          [ inl x ↦ x | inr x ↦ absurd x ]);
      ends = record { none = (λ z. absurd (omega (arith, z, total))); some = (λ h. (refl, size ∙ sym total, next)) };
    }

pub heap-packed : (b : List ℕ) → IsHeap b → IsCompact b → IsPacked b
heap-packed b heap compact = elim (cases_eq (first_free b) 0) [
  | inl e ↦ packed-full b heap e
  | inr ne ↦ elim compact [ inl e ↦ absurd (ne e) | inr h ↦ packed-tail b heap ne h ]
]

pub packed-heap : (b : List ℕ) → IsPacked b → IsHeap b
packed-heap b p = elim (cases_eq (total_free b) 0) [
  | inl z ↦ (let first : first_free b ≡ 0 = p.ends.none z in
      let at : p.at ≡ length b = omega arith in
      let u = used-free p.pre p.used in (
        p.header,
        (
          p.pre,
          record {
            tiles = subst (λ (x : ℕ). Tiles b (table_end b) x p.pre (length b) 0) (sym first)
                (subst (λ (x : ℕ). Tiles b (table_end b) 0 p.pre x 0) at p.tiles);
            all = p.all;
            total = z ∙ sym u;
          },
        ),
      ))
  | inr nz ↦ (let some = p.ends.some (omega arith) in
      let s = total_free b in
      let f = first_free b in
      let low = tiles-le b (table_end b) 0 p.pre p.at 0 p.tiles in
      let here : Tiles b p.at p.at (Free s ∷ []) (length b) 0 =
      (omega arith, p.fours, refl, some.1, (λ e. absurd (omega (arith, e, some.2))), (p.room, some.2)) in
      let whole : Tiles b (table_end b) p.at (p.pre ++ (Free s ∷ [])) (length b) 0 =
      tiles-join b (table_end b) p.at p.pre (Free s ∷ []) p.at p.at (length b) 0 (used-any b (table_end b) 0 p.at p.pre p.at 0 p.used p.tiles) here in (
        p.header,
        (
          p.pre ++ (Free s ∷ []),
          record {
            tiles = subst (λ (x : ℕ). Tiles b (table_end b) x (p.pre ++ (Free s ∷ [])) (length b) 0) (sym some.0) whole;
            all = (λ i h t. has-left i p.pre (Free s ∷ []) (p.all i h t));
            total = omega (arith, free_bytes-append p.pre (Free s ∷ []), used-free p.pre p.used);
          },
        ),
      ))
]

-- where the chunks of a packed heap end
pub record Bounds (b : List ℕ) : Type 0 where
  pub low : table_end b ≤ chunks_end b
  pub room : chunks_end b + total_free b ≡ length b
  pub most : length b ≤ 65520
  pub least : 64 ≤ length b
  pub fours : total_free b % 4 ≡ 0
  pub table : 20 ≤ table_end b

pub bounds : (b : List ℕ) → IsPacked b → Bounds b
bounds b p =
    let low = tiles-le b (table_end b) 0 p.pre p.at 0 p.tiles in
    record { low = omega arith; room = omega arith; most = p.header.most; least = p.header.least; fours = p.fours; table = omega arith }

-- its free bytes are one free chunk
pub first-fits : (b : List ℕ) (size : ℕ) → IsPacked b → 0 < size → size ≤ total_free b → FirstIsSmaller b size → ⊥
first-fits b size p some fits h =
    let low = tiles-le b (table_end b) 0 p.pre p.at 0 p.tiles in
    let e = p.ends.some (omega arith) in
    elim h [ inl none ↦ omega (arith, e.0, none, low) | inr less ↦ omega (arith, ap (word b) e.0, e.1, less, fits) ]

-- packing leaves as many bytes free
pub packed-room : (b d : List ℕ) → IsHeap b → IsPacked d → chunks d ≡ chunks b → length d ≡ length b → total_free d ≡ total_free b
packed-room b d heap p same long = let e = ap used_bytes same in omega (arith, e, block-used b heap, block-used d (packed-heap d p), long)

-- nor does it change which entries are in use
pub free-same : (b d : List ℕ) (i : ℕ) → chunks d ≡ chunks b → i < entries b → entry b i ≡ 0 → (i < entries d) × (entry d i ≡ 0)
free-same b d i same h none =
    let n = entries-same b d same in
    let l : i < entries d = omega (arith, n) in
    (l, unused d i l (ap (λ xs. get_or xs i None) same ∙ chunks-at b i h ∙ chunk-none b (entry b i) none))
