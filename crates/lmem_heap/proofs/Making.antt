-- From the moves and writes of the code to the steps that they make.
use Rattle.std.proofs.Common.{◌≡◌, ℕ, ◌+◌, ◌-◌, ◌*◌, ◌<◌, ◌≤◌, ◌⊎◌, List, length, get_or, replicate, drop, ap, sym, ◌∙◌, subst, inl, inr, arith}
use Rattle.std.proofs.lemmas.Bool.{cases_lt}
use Rattle.std.proofs.lemmas.List.{get_or-take, get_or-drop}
use Rattle.lmem_raw.specs.Bytes.{part, with_part}
use Rattle.geos_terms.specs.Bytes.{word, with_word}
use Rattle.geos_terms.specs.Chunks.{cost}
use Rattle.geos_terms.specs.Block.{entry, entries, table_end, total_free}
use Rattle.geos_terms.specs.Heap.{IsOffset}
use Rattle.geos_terms.proofs.Words.{word-same, word-other, word-part_other, length-with_word, byte-other, word-bytes}
use Rattle.geos_terms.proofs.Costs.{cost-least}
use Rattle.geos_terms.proofs.Resizes.{length-part}
use Rattle.lmem_heap.specs.Moves.{MovesRun}
use Rattle.lmem_heap.specs.Packed.{IsPacked, EndsFree, SetsTail, EditsChunk, HasResized, GrowsTable, chunks_end, chunk_end, chunk_length}
use Rattle.lmem_heap.specs.Extents.{IsExtent}
use Rattle.lmem_heap.specs.declared.extents.Extent.{Extent}
use Rattle.lmem_heap.proofs.Contents.{length-zeros, beside-zeros, within-zeros, kept-bytes}
use Rattle.lmem_heap.proofs.Movers.{moved-low}
use Rattle.lmem_heap.proofs.Edits.{split}
use Rattle.lmem_heap.proofs.PackedHeaps.{bounds}

-- two blocks are equal except for an entry and its chunk, up to an offset
abbrev pub SameBut : List ℕ → List ℕ → ℕ → ℕ → ℕ → Type 0
SameBut old new i from to = (k : ℕ) → (k < 16 + 2 * i) ⊎ (18 + 2 * i ≤ k) → (k < from) ⊎ (to ≤ k) → get_or new k 0 ≡ get_or old k 0

-- a run moves, bytes of one chunk and its entry are written, and the last bytes become free
pub edit-made : (b d d1 c : List ℕ) (i to : ℕ) → i < entries b → table_end b + 2 ≤ entry b i → entry b i - 2 ≤ to
    → entry b i ≤ chunk_end b i → chunk_end b i ≤ chunks_end b →
    MovesRun b d (chunk_end b i) (chunks_end b) to → length d1 ≡ length d → SameBut d d1 i (entry b i - 2) to
    → SetsTail d1 c (to + (chunks_end b - chunk_end b i)) → EditsChunk b c i to
edit-made b d d1 c i to h low ahead wide high m long same t =
    let end = chunk_end b i in
    let at = chunks_end b in
    record {
      long = t.long ∙ long ∙ m.long;
      head = (λ k g. t.same k (omega arith) (inl g) ∙ same k (inl (omega arith)) (inl (omega arith)) ∙ m.head k (omega arith));
      others = (λ j l ne. word-bytes d c (16 + 2 * j) (16 + 2 * j)
          (t.same (16 + 2 * j) (omega arith) (inr (omega arith))
          ∙ same (16 + 2 * j) (elim (cases_lt j i) [ inl a ↦ inl (omega arith) | inr a ↦ inr (omega arith) ]) (inl (omega arith)))
          (t.same (16 + 2 * j + 1) (omega arith) (inr (omega arith))
          ∙ same (16 + 2 * j + 1) (elim (cases_lt j i) [ inl a ↦ inl (omega arith) | inr a ↦ inr (omega arith) ]) (inl (omega arith)))
          ∙ m.entries j l);
      before = (λ j k e g r. let s : j ≡ k = omega arith in ap (λ x. get_or c x 0) s ∙ t.same k (omega arith) (inr (omega arith))
          ∙ same k (inr (omega arith)) (inl r) ∙ m.before k g (omega arith) (omega arith));
      moved = (λ j k e g r. t.same j (omega arith) (inr (omega arith)) ∙ same j (inr (omega arith)) (inr (omega arith)) ∙ m.moved j k e g r);
      total = t.total;
      ends = t.ends;
    }

-- a chunk gets its size word, and zeros after its old bytes
pub resize-made : (b d d2 c : List ℕ) (i begin n : ℕ) → i < entries b → table_end b ≤ begin → entry b i ≡ begin + 2
    → 0 < n → 0 < chunk_length b i → begin + cost (chunk_length b i) ≡ chunk_end b i → chunk_end b i ≤ chunks_end b →
    chunks_end b ≤ length b → begin + cost n + (chunks_end b - chunk_end b i) ≤ length b → length b ≤ 65520 →
    MovesRun b d (chunk_end b i) (chunks_end b) (begin + cost n) → d2 ≡ with_part (with_word d begin (n + 2))
    (begin + 2 + chunk_length b i) (replicate (n - chunk_length b i) 0) →
    SetsTail d2 c (begin + cost n + (chunks_end b - chunk_end b i)) → EditsChunk b c i (begin + cost n) × HasResized b c i n
resize-made b d d2 c i begin n h low is some some_old whole high fits fits' most m made t =
    let e = entry b i in
    let len = chunk_length b i in
    let end = chunk_end b i in
    let at = chunks_end b in
    let to = begin + cost n in
    let wide = cost-least n some in
    let wide_old = cost-least len some_old in
    let back : e - 2 ≡ begin = omega arith in
    let d1 = with_word d begin (n + 2) in
    let n1 = length-with_word d begin (n + 2) in
    let long : length d2 ≡ length d = length-zeros d1 d2 (begin + 2 + len) (n - len) made ∙ n1 in
    let byte : (k : ℕ) → (k < begin) ⊎ (begin + 2 ≤ k) → (k < begin + 2 + len) ⊎ (begin + 2 + len + (n - len) ≤ k)
    → get_or d2 k 0 ≡ get_or d k 0 = (λ k out far.
    beside-zeros d1 d2 (begin + 2 + len) (n - len) k made far ∙ byte-other d begin (n + 2) k out) in
    let entry_byte : (k : ℕ) → k < begin → get_or d2 k 0 ≡ get_or d k 0 = (λ k l. byte k (inl l) (inl (omega arith))) in (
      edit-made b d d2 c i to h (omega arith) (omega arith) (omega arith) high m long
          (λ k out far. elim far [
            | inl l ↦ entry_byte k (omega arith)
            | inr g ↦ byte k (inr (omega arith)) (elim (cases_lt k (begin + 2 + len)) [ inl l ↦ inl l | inr r ↦ inr (omega arith) ])
          ]) t,
      record {
        place = word-bytes d c (16 + 2 * i) (16 + 2 * i) (t.same (16 + 2 * i) (omega arith) (inr (omega arith))
            ∙ entry_byte (16 + 2 * i) (omega arith)) (t.same (16 + 2 * i + 1) (omega arith) (inr (omega arith))
            ∙ entry_byte (16 + 2 * i + 1) (omega arith))
            ∙ m.entries i h ∙ moved-low end at to e (omega arith);
        size = ap (word c) back ∙ word-bytes d2 c begin begin (t.same begin (omega arith) (inr (omega arith)))
            (t.same (begin + 1) (omega arith) (inr (omega arith)))
            ∙ ap (λ x. word x begin) made ∙ word-part_other d1 (begin + 2 + len) _ begin (inl (omega arith))
            ∙ word-same d begin (n + 2) (omega arith) (omega (arith, m.long));
        bytes = (let np = length-part b e len (omega arith) in
            kept-bytes (part b e len) c e len n (omega (arith, t.long, long, m.long)) (inr (omega (arith, np)))
            (λ q old small. t.same (e + q) (omega arith) (inr (omega arith)) ∙ byte (e + q) (inr (omega arith)) (inl (omega arith))
            ∙ m.before (e + q) (omega arith) (omega arith) (omega arith)
            ∙ sym (get_or-take len (drop e b) q 0 old ∙ get_or-drop e b q 0))
            (λ q new small. t.same (e + q) (omega arith) (inr (omega arith)) ∙ within-zeros d1 d2 (begin + 2 + len)
            (n - len) (e + q) made (omega (arith, n1, m.long)) (omega arith) (omega arith)));
      },
    )

-- two more entries
pub grow-made : (b d d1 d2 d3 c : List ℕ) (n end at : ℕ) → n ≡ entries b → end ≡ table_end b → at ≡ chunks_end b
    → end ≤ at → at + 4 ≤ length b → length b ≤ 65520 → MovesRun b d end at (end + 4) →
    d1 ≡ with_word d end 0 → d2 ≡ with_word d1 (end + 2) 0 → d3 ≡ with_word d2 10 (n + 2) → SetsTail d3 c (at + 4) → GrowsTable b c
grow-made b d d1 d2 d3 c n end at n_is end_is at_is low fits most m e1 e2 e3 t =
    let n1 : length d1 ≡ length d = ap length e1 ∙ length-with_word d end 0 in
    let n2 : length d2 ≡ length d1 = ap length e2 ∙ length-with_word d1 (end + 2) 0 in
    let n3 : length d3 ≡ length d2 = ap length e3 ∙ length-with_word d2 10 (n + 2) in
    let byte : (k : ℕ) → (k < 10) ⊎ (((12 ≤ k) × (k < end)) ⊎ (end + 4 ≤ k)) → get_or d3 k 0 ≡ get_or d k 0 =
    (λ k out. ap (λ x. get_or x k 0) e3
    ∙ byte-other d2 10 (n + 2) k (elim out [ inl a ↦ inl a | inr a ↦ inr (elim a [ inl z ↦ omega arith | inr z ↦ omega arith ]) ])
    ∙ ap (λ x. get_or x k 0) e2
    ∙ byte-other d1 (end + 2) 0 k
    (elim out [ inl a ↦ inl (omega arith) | inr a ↦ elim a [ inl z ↦ inl (omega arith) | inr z ↦ inr (omega arith) ] ])
    ∙ ap (λ x. get_or x k 0) e1
    ∙ byte-other d end 0 k (elim out [ inl a ↦ inl (omega arith) | inr a ↦ elim a [ inl z ↦ inl (omega arith) | inr z ↦ inr (omega arith) ] ])) in
    let words : (j : ℕ) → 16 ≤ j → j + 2 ≤ at + 4 → word c j ≡ word d3 j =
    (λ j g r. word-bytes d3 c j j (t.same j (omega arith) (inr g)) (t.same (j + 1) (omega arith) (inr (omega arith)))) in
    let m' : MovesRun b d (table_end b) (chunks_end b) (table_end b + 4) =
    subst (λ (y : ℕ). MovesRun b d (table_end b) y (table_end b + 4)) at_is (subst (λ (x : ℕ). MovesRun b d x at (x + 4)) end_is m) in
    record {
      long = t.long ∙ n3 ∙ n2 ∙ n1 ∙ m.long;
      head = (λ k g. t.same k (omega arith) (inl (omega arith)) ∙ byte k (inl g) ∙ m.head k (omega arith));
      count = word-bytes d3 c 10 10 (t.same 10 (omega arith) (inl (omega arith))) (t.same 11 (omega arith) (inl (omega arith)))
          ∙ ap (λ x. word x 10) e3 ∙ word-same d2 10 (n + 2) (omega arith) (omega (arith, m.long, n1, n2)) ∙ ap (λ x. x + 2) n_is;
      places = (λ i g. words (16 + 2 * i) (omega arith) (omega arith) ∙ word-bytes d d3 (16 + 2 * i) (16 + 2 * i)
          (byte (16 + 2 * i) (inr (inl (omega arith, omega arith)))) (byte (16 + 2 * i + 1) (inr (inl (omega arith, omega arith)))) ∙ m'.entries i g);
      fresh = (
        ap (word c) (sym end_is) ∙ words end (omega arith) (omega arith) ∙ ap (λ x. word x end) e3
            ∙ word-other d2 10 (n + 2) end (inr (omega arith)) ∙ ap (λ x. word x end) e2 ∙ word-other d1 (end + 2) 0 end (inl (omega arith))
            ∙ ap (λ x. word x end) e1 ∙ word-same d end 0 (omega arith) (omega (arith, m.long)),
        ap (λ x. word c (x + 2)) (sym end_is) ∙ words (end + 2) (omega arith) (omega arith) ∙ ap (λ x. word x (end + 2)) e3
            ∙ word-other d2 10 (n + 2) (end + 2) (inr (omega arith)) ∙ ap (λ x. word x (end + 2)) e2
            ∙ word-same d1 (end + 2) 0 (omega arith) (omega (arith, m.long, n1)),
      );
      moved = (λ j k e g r. t.same j (omega arith) (inr (omega arith)) ∙ byte j (inr (inr (omega arith))) ∙ m'.moved j k e g r);
      total = ap (λ x. x + 4 + total_free c) (sym at_is) ∙ t.total;
      ends = (subst (λ (x : ℕ). EndsFree c (x + 4)) at_is t.ends);
    }

-- bounds for the chunk of a packed heap that gets n bytes, and for the chunks after it
pub record InPlace (b : List ℕ) (n : ℕ) (x : Extent) : Type 0 where
  pub low : 16 ≤ x.begin
  pub ends : x.end ≤ chunks_end b
  pub room : chunks_end b ≤ length b
  pub fits : x.begin + cost n + (chunks_end b - x.end) ≤ length b
  pub inside : x.begin + 2 + n ≤ length b
  pub most : length b ≤ 65520

pub in-place : (b : List ℕ) (i n : ℕ) (x : Extent) → IsPacked b → i < entries b → IsOffset (entry b i) → IsExtent b i x
    → 0 < n → cost n ≤ total_free b + cost (chunk_length b i) → InPlace b n x
in-place b i n x p h t k some fits =
    let s = split b i p h t in
    let bs = bounds b p in
    let len = ap cost k.len in
    let wide = cost-least n some in
    record {
      low = omega (arith, k.low);
      ends = omega (arith, s.high, k.end);
      room = omega (arith, bs.room);
      fits = omega (arith, s.high, k.end, k.wide, len, bs.room, fits);
      inside = omega (arith, s.high, k.end, k.wide, len, bs.room, fits, wide);
      most = bs.most;
    }

pub resized-in-place : (b d d1 d2 c : List ℕ) (i at n : ℕ) (x : Extent) → IsPacked b → i < entries b → IsExtent b i x
    → InPlace b n x → at ≡ chunks_end b → 0 < n →
    MovesRun b d x.end at (x.begin + cost n) → d1 ≡ with_word d x.begin (n + 2) → d2 ≡ with_part d1 (x.begin + 2 + x.len) (replicate (n - x.len) 0)
    → SetsTail d2 c (x.begin + cost n + (at - x.end)) →
    EditsChunk b c i (entry b i - 2 + cost n) × HasResized b c i n
resized-in-place b d d1 d2 c i at n x p h k l at_is some m is1 is2 t =
    let begin_is : x.begin ≡ entry b i - 2 = omega arith in
    let same_cost : cost x.len ≡ cost (chunk_length b i) = ap cost k.len in
    let r = resize-made b d d2 c i x.begin n h k.low k.entry some (omega arith) (omega arith) (omega (arith, l.ends, k.end))
    l.room (omega (arith, l.fits, k.end)) l.most (subst (λ (y : ℕ). MovesRun b d (chunk_end b i) y (x.begin + cost n)) at_is
    (subst (λ (y : ℕ). MovesRun b d y at (x.begin + cost n)) k.end m))
    (subst (λ (y : ℕ). d2 ≡ with_part (with_word d x.begin (n + 2)) (x.begin + 2 + y) (replicate (n - y) 0)) k.len
    (is2 ∙ ap (λ y. with_part y (x.begin + 2 + x.len) (replicate (n - x.len) 0)) is1))
    (subst (λ (y : ℕ). SetsTail d2 c (x.begin + cost n + (y - chunk_end b i))) at_is
    (subst (λ (y : ℕ). SetsTail d2 c (x.begin + cost n + (at - y))) k.end t)) in
    (subst (λ (y : ℕ). EditsChunk b c i (y + cost n)) begin_is r.0, r.1)
