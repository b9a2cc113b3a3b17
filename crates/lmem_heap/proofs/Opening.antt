-- The first gap of a heap, and the chunks after it.
use Rattle.std.proofs.Common.{◌++◌, ◌≡◌, ◌≢◌, ℕ, ◌+◌, ◌<◌, ◌≤◌, List, [], ◌∷◌, length, refl, ap, sym, ◌∙◌, subst, inl, inr, arith}
use Rattle.geos_terms.specs.Bytes.{word}
use Rattle.geos_terms.specs.Block.{table_end, first_free}
use Rattle.geos_terms.specs.Heap.{Piece, Free, Tiles, HasChunk, free_bytes, IsCompact, IsHeap}
use Rattle.geos_terms.proofs.Pieces.{tiles-le, has-split, free_bytes-append}
use Rattle.geos_terms.proofs.FreePieces.{first-piece, first-room, none-free, used-free, used-any}
use Rattle.lmem_heap.specs.declared.compact.Gap.{Gap}
use Rattle.lmem_heap.specs.Gaps.{HasGap}

abbrev pub gap_of : ℕ → ℕ → ℕ → ℕ → ℕ → Gap
gap_of first size end more after = record { first = first; size = size; end = end; more = more; after = after }

-- the first free chunk of a heap that is not compact: it lies after the table, and does not end the block
pub record OpensAt (b : List ℕ) (f : ℕ) : Type 0 where
  pub some : f ≢ 0
  pub four : 4 ≤ word b f
  pub within : f + word b f ≤ length b
  pub inner : f + word b f ≢ length b

pub first-gap : (b : List ℕ) (f : ℕ) → IsHeap b → (IsCompact b → ⊥) → f ≡ first_free b → OpensAt b f
first-gap b f heap open_still is =
    let some : f ≢ 0 = (λ e. open_still (inl (sym is ∙ e))) in
    let r = first-room b f heap is some in
    record { some = some; four = r.1; within = r.2; inner = (λ e. open_still (inr (ap (λ x. x + word b x) (sym is) ∙ e))) }

-- the gap if no free chunk follows it
pub gap-last : (b : List ℕ) (f g : ℕ) → IsHeap b → f ≡ first_free b → f ≢ 0 → g ≡ word b (f + 2) → g ≡ 0
    → HasGap b (gap_of f (word b f) (length b) 0 0)
gap-last b f g heap is ne next none =
    let r = first-piece b (table_end b) f heap.1.0 (length b)
    (subst (λ (x : ℕ). Tiles b (table_end b) x heap.1.0 (length b) 0) (sym is) heap.1.1.tiles) ne in
    let rest : Tiles b (f + r.s) 0 r.rest (length b) 0 = (subst (λ (x : ℕ). Tiles b (f + r.s) x r.rest (length b) 0) (sym next ∙ none) r.here.5) in
    let low = tiles-le b (table_end b) f r.pre f f r.before in
    let high = tiles-le b (f + r.s) 0 r.rest (length b) 0 rest in
    let size : r.s ≡ word b f = sym r.here.3 in
    let mid_used = none-free b (f + r.s) r.rest (length b) (omega arith) rest in
    let got : HasGap b (gap_of f r.s (length b) 0 0) = record {
      pre = r.pre;
      mid = r.rest;
      post = [];
      pre_used = r.used;
      mid_used = mid_used;
      before = r.before;
      size = (r.here.0, r.here.1, refl);
      middle = rest;
      behind = (omega arith, refl);
      apart = (λ e. absurd (omega arith));
      all = (λ i h t. elim (has-split i r.pre (Free r.s ∷ r.rest) (subst (λ (ps : List Piece). HasChunk i ps) r.is (heap.1.1.all i h t)))
          [ inl x ↦ inl x | inr x ↦ inr (inl x) ]);
      total = (let e = ap free_bytes r.is ∙ free_bytes-append r.pre (Free r.s ∷ r.rest) in
          omega (arith, e, used-free r.pre r.used, used-free r.rest mid_used, heap.1.1.total));
      places = (omega arith, high, omega arith);
    } in
    subst (λ (x : ℕ). HasGap b (gap_of f x (length b) 0 0)) {y = word b f} size got

-- where another one is
pub gap-inner : (b : List ℕ) (f g : ℕ) → IsHeap b → f ≡ first_free b → f ≢ 0 → g ≡ word b (f + 2) → g ≢ 0
    → HasGap b (gap_of f (word b f) g (word b g) (word b (g + 2))) × (f + word b f < g) × (g + 4 ≤ length b)
gap-inner b f g heap is ne next some =
    let r = first-piece b (table_end b) f heap.1.0 (length b)
    (subst (λ (x : ℕ). Tiles b (table_end b) x heap.1.0 (length b) 0) (sym is) heap.1.1.tiles) ne in
    let q = first-piece b (f + r.s) g r.rest (length b) (subst (λ (x : ℕ). Tiles b (f + r.s) x r.rest (length b) 0) (sym next) r.here.5) some in
    let low = tiles-le b (table_end b) f r.pre f f r.before in
    let mid = tiles-le b (f + r.s) g q.pre g g q.before in
    let high = tiles-le b (g + q.s) (word b (g + 2)) q.rest (length b) 0 q.here.5 in
    let size : r.s ≡ word b f = sym r.here.3 in
    let more : q.s ≡ word b g = sym q.here.3 in
    let got : HasGap b (gap_of f r.s g q.s (word b (g + 2))) = record {
      pre = r.pre;
      mid = q.pre;
      post = q.rest;
      pre_used = r.used;
      mid_used = q.used;
      before = r.before;
      size = (r.here.0, r.here.1, q.here.1);
      middle = used-any b (f + r.s) g 0 q.pre g g q.used q.before;
      behind = q.here.5;
      apart = q.here.4;
      all = (λ i h t. let H : List Piece → Type 0 = λ ps. HasChunk i ps in
          elim (has-split i r.pre (Free r.s ∷ r.rest) (subst H {y = r.pre ++ (Free r.s ∷ r.rest)} r.is (heap.1.1.all i h t))) [
            | inl x ↦ inl x
            | inr x ↦ inr (has-split i q.pre (Free q.s ∷ q.rest) (subst H q.is x))
          ]);
      total = (let e = ap free_bytes r.is ∙ free_bytes-append r.pre (Free r.s ∷ r.rest) in let d = ap free_bytes q.is
          ∙ free_bytes-append q.pre (Free q.s ∷ q.rest) in
          omega (arith, e, d, used-free r.pre r.used, used-free q.pre q.used, heap.1.1.total));
      places = (omega arith, mid, high);
    } in
    let apart : g ≢ f + r.s = (λ e. r.here.4 (sym next ∙ e)) in
    let four : 4 ≤ q.s = omega (arith, q.here.0, q.here.1) in (
      subst (λ (y : ℕ). HasGap b (gap_of f (word b f) g y (word b (g + 2)))) {y = word b g} more
          (subst (λ (x : ℕ). HasGap b (gap_of f x g q.s (word b (g + 2)))) {y = word b f} size got),
      omega (arith, size),
      omega (arith, high, four),
    )
