-- Gaps that close one after the other before the table is written.
use Rattle.std.proofs.Common.{◌≡◌, ℕ, ◌+◌, ◌-◌, ◌*◌, ◌<◌, List, [], ◌∷◌, ◌++◌, length, get_or, refl, ap, sym, ◌∙◌, subst, inl, inr, arith, length-append}
use Rattle.geos_terms.specs.Bytes.{word}
use Rattle.geos_terms.specs.Block.{entries, table_end, first_free}
use Rattle.geos_terms.specs.Heap.{IsCompact, IsHeap}
use Rattle.geos_terms.proofs.Pieces.{tiles-le}
use Rattle.geos_terms.proofs.FreePieces.{first-room}
use Rattle.geos_terms.proofs.Headers.{head-word}
use Rattle.lmem_heap.specs.declared.compact.Gap.{Gap}
use Rattle.lmem_heap.specs.declared.slides.Slide.{Slide}
use Rattle.lmem_heap.specs.Moves.{MapsEntries}
use Rattle.lmem_heap.specs.Slides.{entry_slid}
use Rattle.lmem_heap.specs.Gaps.{ClosesGap, ClosesGaps, IsFirstGap, SlidesGaps, slid, slide_of}
use Rattle.lmem_heap.proofs.Closing.{closed-heap, closed-chunks}
use Rattle.lmem_heap.proofs.Sliding.{order-more}
use Rattle.lmem_heap.proofs.Unwritten.{but-itself, but-head, but-behind, slid-on, written}

-- the first free chunk of a heap that is not compact lies in the block
first-inside : (b : List ℕ) → IsHeap b → (IsCompact b → ⊥) → first_free b < length b
first-inside b heap open_still = let r = first-room b (first_free b) heap refl (λ e. open_still (inl e)) in omega (arith, r.1, r.2)

-- a gap that closes by itself
pub closes-one : (b c : List ℕ) (gap : Gap) → IsHeap b → IsFirstGap b gap → (IsCompact b → ⊥) → ClosesGap b c gap → ClosesGaps b c
closes-one b c gap heap g open_still k =
    let p = g.has b (but-itself b heap) in
    record {
      heap = closed-heap b c gap heap.0 p k;
      chunks = closed-chunks b c gap heap.0 p k;
      handle = head-word b c 12 0 k.head (omega arith);
      went = omega (arith, k.first, g.first, g.inner);
      within = first-inside b heap open_still;
    }

word-small : (b : List ℕ) (j : ℕ) → ((k : ℕ) → get_or b k 0 < 256) → word b j < 65536
unfolding word
word-small b j small = omega (arith, small j, small (j + 1))

pub slides-none : (b : List ℕ) → IsHeap b → ((k : ℕ) → get_or b k 0 < 256) → SlidesGaps b b []
slides-none b heap small = record {
  heap = b;
  slid = record { but = but-itself b heap; says = (λ i h. refl); small = (λ i h. word-small b (16 + 2 * i) small) };
  chunks = refl;
  handle = refl;
  high = 0;
  order = omega arith;
  below = omega arith;
  went = inl (refl, refl);
}

pub slides-more : (old c d : List ℕ) (ss : List Slide) (gap : Gap) → SlidesGaps old c ss → IsFirstGap c gap → gap.after < 65536 → d ≡ slid c gap →
    SlidesGaps old d (ss ++ (slide_of gap ∷ []))
slides-more old c d ss gap s g small is =
    let p = g.has s.heap s.slid.but in
    let reach : first_free c + word c (first_free c) ≡ gap.first + gap.size = ap (λ x. x + word c x) (sym g.first)
    ∙ ap (λ x. gap.first + x) (sym g.size) in
    let on = slid-on c s.heap d ss gap s.high s.slid p small s.order (omega (arith, s.below, reach)) is in
    let count = head-word s.heap on.next 12 10 on.closed.head (omega arith) in
    let low = tiles-le s.heap (table_end s.heap) gap.first p.pre gap.first gap.first p.before in
    let new_first : first_free d ≡ gap.end - gap.size = but-head d on.next 12 on.slid.but (omega arith) ∙ on.closed.first in
    let new_size : word d (gap.end - gap.size) ≡ gap.size + gap.more = but-behind d on.next (gap.end - gap.size) on.slid.but
    (omega (arith, count, low, g.inner)) ∙ on.closed.size in
    let new_reach : first_free d + word d (first_free d) ≡ gap.end - gap.size + (gap.size + gap.more) = ap (λ x. x + word d x) new_first
    ∙ ap (λ x. gap.end - gap.size + x) new_size in
    record {
      heap = on.next;
      slid = on.slid;
      chunks = closed-chunks s.heap on.next gap s.slid.but.is.0 p on.closed ∙ s.chunks;
      handle = head-word s.heap on.next 12 0 on.closed.head (omega arith) ∙ s.handle;
      high = gap.end;
      order = order-more 0 ss s.high (slide_of gap) s.order (omega (arith, s.below, reach)) (omega (arith, g.inner)) (omega arith);
      below = omega (arith, new_reach, g.inner);
      went = inr (
        omega (arith, length-append ss (slide_of gap ∷ [])),
        elim s.went [
          | inl z ↦ (let same : first_free c ≡ first_free old = ap first_free z.1 in omega (arith, same, g.first, g.inner, new_first))
          | inr z ↦ omega (arith, z.1, g.first, g.inner, new_first)
        ],
      );
    }

-- one more run has moved, as the loop says it
pub record SlidOneMore (old d : List ℕ) (ss : List Slide) : Type 0 where
  pub so_far : SlidesGaps old d ss
  pub some : 0 < length ss

pub slides-one-more : (old c d : List ℕ) (ss after : List Slide) (gap : Gap) (s : Slide) → SlidesGaps old c ss
    → IsFirstGap c gap → gap.after < 65536 → d ≡ slid c gap → s ≡ slide_of gap → after ≡ ss ++ (s ∷ []) → SlidOneMore old d after
slides-one-more old c d ss after gap s so_far g small bytes run is =
    let added : after ≡ ss ++ (slide_of gap ∷ []) = is ∙ ap (λ x. ss ++ (x ∷ [])) run in
    record {
      so_far = subst (λ (x : List Slide). SlidesGaps old d x) (sym added) (slides-more old c d ss gap so_far g small bytes);
      some =
          (let n = ap length added in omega (arith, n, length-append ss (slide_of gap ∷ [])));
    }

pub slides-done : (old c d : List ℕ) (ss : List Slide) → SlidesGaps old c ss → IsHeap old → (IsCompact old → ⊥)
    → 0 < length ss → MapsEntries c d (entry_slid ss) 0 (entries c) → ClosesGaps old d
slides-done old c d ss s heap open_still some m =
    let w = written c s.heap d ss s.slid m in
    let same = but-head c s.heap 12 s.slid.but (omega arith) in
    record {
      heap = w.0;
      chunks = w.1 ∙ s.chunks;
      handle = w.2 ∙ s.handle;
      went = elim s.went [ inl z ↦ absurd (let n : length ss ≡ 0 = ap length z.0 in omega (arith, n, some)) | inr z ↦ omega (arith, z.1, w.3, same) ];
      within = first-inside old heap open_still;
    }
