-- Blocks whose chunks have moved while the table still says where they stood.
use Rattle.std.proofs.Common.{◌≡◌, ◌≢◌, ℕ, zero, suc, ◌+◌, ◌-◌, ◌*◌, ◌<◌, ◌≤◌, ◌⊎◌, List, [], ◌∷◌, ◌++◌, length, get_or, refl, ap, sym, ◌∙◌, subst, inl, inr, arith}
use Rattle.std.proofs.lemmas.Bool.{cases_eq}
use Rattle.lmem_raw.specs.Bytes.{part, with_part}
use Rattle.lmem_raw.proofs.Parts.{length-with_part}
use Rattle.geos_terms.specs.Bytes.{word, with_word, word_bytes, IsShifted}
use Rattle.geos_terms.specs.Block.{entry, entries, table_end, chunks, first_free, handle_word}
use Rattle.geos_terms.specs.Heap.{Tiles, IsCompact, IsHeap, IsOffset}
use Rattle.geos_terms.proofs.Words.{word-bytes, part-shifted, length-with_word, get_or-with_part_before}
use Rattle.geos_terms.proofs.Entries.{told}
use Rattle.geos_terms.proofs.Pieces.{tiles-le}
use Rattle.geos_terms.proofs.Moves.{tiles-kept}
use Rattle.geos_terms.proofs.Tables.{chunks-same, chunk-kept}
use Rattle.geos_terms.proofs.Headers.{head-word, same-header}
use Rattle.geos_terms.proofs.FreePieces.{first-room}
use Rattle.lmem_heap.specs.declared.compact.Gap.{Gap}
use Rattle.lmem_heap.specs.Moves.{entry_moved, MapsEntries, MovesRun}
use Rattle.lmem_heap.specs.declared.slides.Slide.{Slide}
use Rattle.lmem_heap.specs.Slides.{AreInOrder, entry_slid, HasSlid, IsButForEntries}
use Rattle.lmem_heap.specs.Gaps.{HasGap, ClosesGap, closing_words, slid, slide_of}
use Rattle.lmem_heap.proofs.Movers.{entries-kept, entries-more, run-moved, run-table}
use Rattle.lmem_heap.proofs.Closing.{closes, closed-heap, words-byte}
use Rattle.lmem_heap.proofs.Opening.{OpensAt, first-gap, gap_of, gap-inner, gap-last}
use Rattle.lmem_heap.proofs.Sliding.{moved-le, slid-more}

-- a heap is one in which nothing is still to be written
pub but-itself : (b : List ℕ) → IsHeap b → IsButForEntries b b
but-itself b heap = record { is = heap; long = refl; same = (λ k h. refl) }

-- the words of the header, and those after the table
pub but-head : (c b : List ℕ) (k : ℕ) → IsButForEntries c b → k + 2 ≤ 16 → word c k ≡ word b k
but-head c b k but h = word-bytes b c k k (but.same k (inl (omega arith))) (but.same (k + 1) (inl (omega arith)))

pub but-behind : (c b : List ℕ) (k : ℕ) → IsButForEntries c b → table_end b ≤ k → word c k ≡ word b k
but-behind c b k but h = word-bytes b c k k (but.same k (inr h)) (but.same (k + 1) (inr (omega (arith, h))))

-- bytes that differ from a heap only in the entries are this heap once the entries are equal
pub but-heap : (c b : List ℕ) → IsButForEntries c b → ((i : ℕ) → i < entries b → entry c i ≡ entry b i) → IsHeap c × (chunks c ≡ chunks b)
but-heap c b but each =
    let ps = but.is.1.0 in
    let n : entries c ≡ entries b = but-head c b 10 but (omega arith) in
    let start : table_end b ≡ table_end c = ap (λ x. 16 + 2 * x) (sym n) in
    let first : first_free b ≡ first_free c = sym (but-head c b 12 but (omega arith)) in
    let total : word c 14 ≡ word b 14 = but-head c b 14 but (omega arith) in
    let kept : IsShifted b c 0 0 (table_end b) (length b) = (λ j k e g r. let same : j ≡ k = omega arith in
    ap (λ x. get_or c x 0) same ∙ but.same k (inr g)) in
    let tiles : Tiles c (table_end b) (first_free b) ps (length b) 0 = tiles-kept b c (table_end b) (first_free b) ps
    (length b) 0 but.is.1.1.tiles kept (omega (arith, n)) (λ i l low high. each i l) in (
      (
        same-header b c but.is.0 but.long (λ k l. but.same k (inl (omega arith))),
        (
          ps,
          record {
            tiles = subst (λ (x : ℕ). Tiles c (table_end c) (first_free c) ps x 0) (sym but.long)
                (subst (λ (x : ℕ). Tiles c (table_end c) x ps (length b) 0) first
                (subst (λ (x : ℕ). Tiles c x (first_free b) ps (length b) 0) start tiles));
            all = (λ i l told. let h : i < entries b = omega (arith, n) in but.is.1.1.all i h (subst (λ (x : ℕ). IsOffset x) (each i h) told));
            total = total ∙ but.is.1.1.total;
          },
        ),
      ),
      chunks-same b c n (λ i h. chunk-kept b c i (table_end b) (length b) (omega arith) (omega (arith, but.long))
          (each i h) (told b i but.is h) kept),
    )

-- once the runs are written into the table, the block is the heap
pub written : (c b d : List ℕ) (ss : List Slide) → HasSlid c b ss → MapsEntries c d (entry_slid ss) 0 (entries c)
    → IsHeap d × (chunks d ≡ chunks b) × (handle_word d ≡ handle_word b) × (first_free d ≡ first_free b)
written c b d ss s m =
    let n : entries c ≡ entries b = but-head c b 10 s.but (omega arith) in
    let but : IsButForEntries d b = record {
      is = s.but.is;
      long = m.long ∙ s.but.long;
      same = (λ k h. elim h [ inl l ↦ m.head k l ∙ s.but.same k (inl l) | inr l ↦ m.behind k (omega (arith, n, l)) ∙ s.but.same k (inr l) ]);
    } in
    let r = but-heap d b but (λ i l. m.mapped i (omega arith) (omega (arith, n)) ∙ sym (s.says i l)) in
    (r.0, r.1, but-head d b 0 but (omega arith), but-head d b 12 but (omega arith))

-- a table whose entries are what a function makes of them
mapped-table : (b : List ℕ) (f : ℕ → ℕ) (n : ℕ) → n ≤ entries b → table_end b ≤ length b → ((i : ℕ) → i < n → f (entry b i) < 65536)
    → (d : List ℕ) × MapsEntries b d f 0 n
mapped-table b f zero h fits small = (b, entries-kept b f 0 0 (λ j g l. absurd (omega arith)))
mapped-table b f (suc n) h fits small =
    let r = mapped-table b f n (omega arith) fits (λ i l. small i (omega arith)) in
    let e : entry r.0 n ≡ entry b n = r.1.rest n (inr (omega arith)) (omega arith) in
    let same : n + 1 ≡ suc n = omega arith in (
      with_word r.0 (16 + 2 * n) (f (entry b n)),
      subst (λ (x : ℕ). MapsEntries b (with_word r.0 (16 + 2 * n) (f (entry b n))) f 0 x) same
          (entries-more b r.0 f 0 n (f (entry b n)) r.1 (omega arith) (omega arith) fits (sym (ap f e)) (small n (omega arith))),
    )

-- the same write to two lists that have the same byte somewhere
same-part : (x y : List ℕ) (at : ℕ) (ws : List ℕ) (k : ℕ) → length x ≡ length y → get_or x k 0 ≡ get_or y k 0
    → get_or (with_part x at ws) k 0 ≡ get_or (with_part y at ws) k 0
same-part [] [] at ws k n e = refl
same-part [] (b ∷ y) at ws k n e = absurd (omega (arith, n))
same-part (a ∷ x) [] at ws k n e = absurd (omega (arith, n))
same-part (a ∷ x) (b ∷ y) zero [] k n e = e
same-part (a ∷ x) (b ∷ y) zero (w ∷ ws) zero n e = refl
same-part (a ∷ x) (b ∷ y) zero (w ∷ ws) (suc k) n e = same-part x y zero ws k (omega (arith, n)) e
same-part (a ∷ x) (b ∷ y) (suc at) ws zero n e = e
same-part (a ∷ x) (b ∷ y) (suc at) ws (suc k) n e = same-part x y at ws k (omega (arith, n)) e

same-word : (x y : List ℕ) (at w k : ℕ) → length x ≡ length y → get_or x k 0 ≡ get_or y k 0
    → get_or (with_word x at w) k 0 ≡ get_or (with_word y at w) k 0
unfolding with_word
same-word x y at w k n e = same-part x y at (word_bytes w) k n e

same-closing : (x y : List ℕ) (gap : Gap) (k : ℕ) → length x ≡ length y → get_or x k 0 ≡ get_or y k 0
    → get_or (closing_words x gap) k 0 ≡ get_or (closing_words y gap) k 0
unfolding closing_words
same-closing x y gap k n e =
    let at = gap.end - gap.size in
    let t = gap.size + gap.more in
    let x1 = with_word x at t in
    let y1 = with_word y at t in
    let n1 : length x1 ≡ length y1 = length-with_word x at t ∙ n ∙ sym (length-with_word y at t) in
    let x2 = with_word x1 (at + 2) gap.after in
    let y2 = with_word y1 (at + 2) gap.after in
    let n2 : length x2 ≡ length y2 = length-with_word x1 (at + 2) gap.after ∙ n1 ∙ sym (length-with_word y1 (at + 2) gap.after) in
    same-word x2 y2 12 at k n2 (same-word x1 y1 (at + 2) gap.after k n1 (same-word x y at t k n e))

long-closing : (x : List ℕ) (gap : Gap) → length (closing_words x gap) ≡ length x
unfolding closing_words
long-closing x gap =
    let at = gap.end - gap.size in
    let x1 = with_word x at (gap.size + gap.more) in
    let x2 = with_word x1 (at + 2) gap.after in
    length-with_word x2 12 at ∙ length-with_word x1 (at + 2) gap.after ∙ length-with_word x at (gap.size + gap.more)

-- one more gap is closed, in a heap whose entries are still to be written
pub record SlidOn (c b : List ℕ) (ss : List Slide) (gap : Gap) : Type 0 where
  pub next : List ℕ
  pub slid : HasSlid c next ss
  pub closed : ClosesGap b next gap

pub slid-on : (c b d : List ℕ) (ss : List Slide) (gap : Gap) (high : ℕ) → HasSlid c b ss → HasGap b gap → gap.after < 65536
    → AreInOrder 0 ss high → high ≤ gap.first + gap.size → d ≡ slid c gap → SlidOn d b (ss ++ (slide_of gap ∷ [])) gap
slid-on c b d ss gap high s p small order below is =
    let f = gap.first in
    let from = gap.first + gap.size in
    let n = gap.end - from in
    let four : 4 ≤ gap.size = omega arith in
    let low = tiles-le b (table_end b) f p.pre f f p.before in
    let ws = part b from n in
    let kept : IsShifted b c 0 0 from gap.end = (λ j k e g r. let same : j ≡ k = omega arith in ap (λ x. get_or c x 0) same
    ∙ s.but.same k (inr (omega arith))) in
    let same_part : part c from n ≡ ws = part-shifted b c 0 0 from gap.end from from n kept refl (omega arith)
    (omega arith) (omega arith) (omega arith) in
    let c0 = with_part c f (part c from n) in
    let b0 = with_part b f ws in
    let low_byte : (k : ℕ) → k < f → get_or b0 k 0 ≡ get_or b k 0 = (λ k h. get_or-with_part_before b f ws k h) in
    let count0 : entries b0 ≡ entries b = word-bytes b b0 10 10 (low_byte 10 (omega arith)) (low_byte 11 (omega arith)) in
    let entry0 : (i : ℕ) → i < entries b → entry b0 i ≡ entry b i =
    (λ i h. word-bytes b b0 (16 + 2 * i) (16 + 2 * i) (low_byte (16 + 2 * i) (omega arith)) (low_byte (16 + 2 * i + 1) (omega arith))) in
    let fits = run-table b b0 from gap.end f (omega arith) low (omega arith) (omega arith) refl in
    let F : ℕ → ℕ = entry_moved from gap.end f in
    let t = mapped-table b0 F (entries b0) (omega arith) fits (λ i h. let l : i < entries b = omega (arith, count0) in
    let q = entry0 i l in let a = s.small i l in let v = moved-le from gap.end f (entry b0 i) (omega arith) in omega (arith, q, a, v)) in
    let m : MovesRun b t.0 from gap.end f = run-moved b b0 t.0 from gap.end f (omega arith) low (omega arith) (omega arith) (omega arith) refl t.1 in
    let next = closing_words t.0 gap in
    let k : ClosesGap b next gap = closes b t.0 next gap s.but.is.0 p small m refl in
    let count : entries next ≡ entries b = head-word b next 12 10 k.head (omega arith) in
    let long_c0 : length c0 ≡ length c = length-with_part c f (part c from n) in
    let long_d : length d ≡ length c = ap length is ∙ long-closing c0 gap ∙ long_c0 in
    let byte : (q : ℕ) → (q < 16) ⊎ (table_end b ≤ q) → get_or c0 q 0 ≡ get_or t.0 q 0 =
    (λ q h. ap (λ x. get_or (with_part c f x) q 0) same_part ∙ same-part c b f ws q s.but.long (s.but.same q h)
    ∙ sym (elim h [ inl l ↦ t.1.head q l | inr l ↦ t.1.behind q (omega (arith, count0, l)) ])) in
    let long_t : length c0 ≡ length t.0 = long_c0 ∙ s.but.long ∙ sym m.long in
    let kept_entry : (i : ℕ) → i < entries b → entry d i ≡ entry c i = (λ i h. let q = 16 + 2 * i in
    let one : (q : ℕ) → 16 ≤ q → q < table_end b → get_or d q 0 ≡ get_or c q 0 = (λ q g l. ap (λ x. get_or x q 0) is
    ∙ words-byte c0 gap q (inr (inl (omega arith, omega arith))) (omega arith) ∙ get_or-with_part_before c f (part c from n) q (omega arith)) in
    word-bytes c d q q (one q (omega arith) (omega arith)) (one (q + 1) (omega arith) (omega arith))) in
    record {
      next = next;
      slid = record {
        but = record {
          is = closed-heap b next gap s.but.is.0 p k;
          long = long_d ∙ s.but.long ∙ sym k.long;
          same = (λ q h. ap (λ x. get_or x q 0) is
              ∙ same-closing c0 t.0 gap q long_t (byte q (elim h [ inl l ↦ inl l | inr l ↦ inr (omega (arith, count, l)) ])));
        };
        says = (λ i h. let l : i < entries b = omega (arith, count) in
            k.places i l ∙ ap F (s.says i l) ∙ sym (slid-more 0 ss high (slide_of gap) (entry c i) order below)
            ∙ ap (entry_slid (ss ++ (slide_of gap ∷ []))) (sym (kept_entry i l)));
        small = (λ i h. let l : i < entries b = omega (arith, count) in let e = k.places i l in let a = s.small i l in
            let v = moved-le from gap.end f (entry b i) (omega arith) in omega (arith, e, a, v));
      };
      closed = k;
    }

-- the first gap of a heap whose entries are still to be written
but-compact : (c b : List ℕ) → IsButForEntries c b → IsCompact b → IsCompact c
but-compact c b but compact =
    let first : first_free c ≡ first_free b = but-head c b 12 but (omega arith) in
    elim (cases_eq (first_free b) 0) [
      | inl none ↦ inl (first ∙ none)
      | inr some ↦ elim compact [
        | inl none ↦ absurd (some none)
        | inr ends ↦ (let r = first-room b (first_free b) but.is refl some in let same = but-behind c b (first_free b) but r.0 in
            inr (ap (λ x. x + word c x) first ∙ ap (λ x. first_free b + x) same ∙ ends ∙ sym but.long))
      ]
    ]

pub record ButFirst (c b : List ℕ) (f : ℕ) : Type 0 where
  pub gap : OpensAt b f
  pub is : f ≡ first_free b
  pub size : word c f ≡ word b f
  pub next : word c (f + 2) ≡ word b (f + 2)
  pub long : length c ≡ length b

pub but-first : (c b : List ℕ) (f : ℕ) → IsButForEntries c b → (IsCompact c → ⊥) → f ≡ first_free c → ButFirst c b f
but-first c b f but open_still e =
    let is : f ≡ first_free b = e ∙ but-head c b 12 but (omega arith) in
    let g = first-gap b f but.is (λ x. open_still (but-compact c b but x)) is in
    let r = first-room b f but.is is g.some in
    record { gap = g; is = is; size = but-behind c b f but r.0; next = but-behind c b (f + 2) but (omega (arith, r.0)); long = but.long }

pub record ButInner (c b : List ℕ) (f g : ℕ) : Type 0 where
  pub gap : HasGap b (gap_of f (word c f) g (word c g) (word c (g + 2)))
  pub inner : f + word c f < g
  pub within : g + 4 ≤ length c

pub but-inner : (c b : List ℕ) (f g : ℕ) → IsButForEntries c b → ButFirst c b f → g ≡ word c (f + 2) → g ≢ 0 → ButInner c b f g
but-inner c b f g but q next some =
    let n = gap-inner b f g but.is q.is q.gap.some (next ∙ q.next) some in
    let r = first-room b f but.is q.is q.gap.some in
    let size : word b f ≡ word c f = sym q.size in
    let more : word b g ≡ word c g = sym (but-behind c b g but (omega (arith, n.1, r.0))) in
    let after : word b (g + 2) ≡ word c (g + 2) = sym (but-behind c b (g + 2) but (omega (arith, n.1, r.0))) in
    record {
      gap = subst (λ (x : ℕ). HasGap b (gap_of f (word c f) g (word c g) x)) after
          (subst (λ (x : ℕ). HasGap b (gap_of f (word c f) g x (word b (g + 2)))) more
          (subst (λ (x : ℕ). HasGap b (gap_of f x g (word b g) (word b (g + 2)))) size n.0));
      inner = omega (arith, n.1, size);
      within =
          omega (arith, n.2, q.long);
    }

pub but-last : (c b : List ℕ) (f g : ℕ) → IsButForEntries c b → ButFirst c b f → g ≡ word c (f + 2) → g ≡ 0
    → HasGap b (gap_of f (word c f) (length c) 0 0)
but-last c b f g but q next none =
    subst (λ (x : ℕ). HasGap b (gap_of f (word c f) x 0 0)) (sym q.long)
    (subst (λ (x : ℕ). HasGap b (gap_of f x (length b) 0 0)) (sym q.size) (gap-last b f g but.is q.is q.gap.some (next ∙ q.next) none))
