-- A gap that closes leaves a heap with the same chunks.
use Rattle.std.proofs.Common.{◌≡◌, ℕ, ◌+◌, ◌-◌, ◌*◌, ◌<◌, ◌≤◌, ◌⊎◌, List, ◌∷◌, ◌++◌, length, get_or, refl, ap, sym, ◌∙◌, subst, inl, inr, arith}
use Rattle.geos_terms.specs.Bytes.{word, with_word}
use Rattle.geos_terms.proofs.Words.{word-same, word-other, length-with_word, byte-other, word-bytes}
use Rattle.geos_terms.specs.Block.{entry, entries, table_end, chunks, first_free}
use Rattle.geos_terms.specs.Heap.{Piece, Free, Tiles, IsOffset, IsHeader, IsTiledBy, IsHeap}
use Rattle.geos_terms.proofs.Costs.{cost-four}
use Rattle.geos_terms.proofs.Pieces.{lies, tiles-le, tiles-join, has-left, has-right, free_bytes-append}
use Rattle.geos_terms.proofs.Moves.{tiles-kept, tiles-shifted, chunk-shifted, chunk-stays}
use Rattle.geos_terms.proofs.Tables.{chunks-same, chunk-cases}
use Rattle.geos_terms.proofs.Headers.{head-word, same-header}
use Rattle.geos_terms.proofs.FreePieces.{used-any, used-free}
use Rattle.lmem_heap.specs.declared.compact.Gap.{Gap}
use Rattle.lmem_heap.specs.Moves.{MovesRun}
use Rattle.lmem_heap.specs.Gaps.{HasGap, ClosesGap, closing_words}
use Rattle.lmem_heap.proofs.Movers.{moved-in, moved-low, moved-high}

-- an entry of a chunk before the gap, between the gap and its end, and after its end
entry-before : (b c : List ℕ) (gap : Gap) (i : ℕ) → ClosesGap b c gap → i < entries b → entry b i ≤ gap.first + gap.size → entry c i ≡ entry b i
entry-before b c gap i k h l = k.places i h ∙ moved-low (gap.first + gap.size) gap.end gap.first (entry b i) l

entry-moves : (b c : List ℕ) (gap : Gap) (i : ℕ) → ClosesGap b c gap → i < entries b → gap.first + gap.size < entry b i
    → entry b i < gap.end → entry c i + (gap.first + gap.size) ≡ entry b i + gap.first
entry-moves b c gap i k h l u = let e = k.places i h ∙ moved-in (gap.first + gap.size) gap.end gap.first (entry b i) l u in omega (arith, e)

entry-behind : (b c : List ℕ) (gap : Gap) (i : ℕ) → ClosesGap b c gap → i < entries b → gap.end ≤ entry b i → entry c i ≡ entry b i
entry-behind b c gap i k h l = k.places i h ∙ moved-high (gap.first + gap.size) gap.end gap.first (entry b i) l

-- an entry that is an offset was one before
offset-back : (b c : List ℕ) (gap : Gap) (i : ℕ) → ClosesGap b c gap → gap.end ≤ 65535 → i < entries b → IsOffset (entry c i) → IsOffset (entry b i)
offset-back b c gap i k small h told = (
  (λ e. told.0 (entry-before b c gap i k h (omega (arith, e)) ∙ e)),
  (λ e. told.1 (entry-behind b c gap i k h (omega (arith, e)) ∙ e)),
)

closed-tiles : (b c : List ℕ) (gap : Gap) → IsHeader b → HasGap b gap → ClosesGap b c gap → (pieces : List Piece) × IsTiledBy c pieces
closed-tiles b c gap header p k =
    let f = gap.first in
    let s = gap.size in
    let end = gap.end in
    let t = gap.more in
    let n : entries c ≡ entries b = head-word b c 12 10 k.head (omega arith) in
    let start : table_end c ≡ table_end b = ap (λ x. 16 + 2 * x) n in
    let pre : Tiles c (table_end b) f p.pre f f = tiles-kept b c (table_end b) f p.pre f f p.before k.before
    (omega (arith, n)) (λ i l low high. entry-before b c gap i k l (omega arith)) in
    let pre' : Tiles c (table_end b) (end - s) p.pre f (end - s) = used-any c (table_end b) f (end - s) p.pre f f p.pre_used pre in
    let middle : Tiles c f (end - s) p.mid (end - s) (end - s) = tiles-shifted b c (f + s) f (f + s) 0 p.mid end 0 f
    (end - s) (end - s) p.mid_used p.middle (omega arith) (omega arith) k.moved (omega (arith, n))
    (λ i l low high. entry-moves b c gap i k l (omega arith) high) in
    let behind : Tiles c (end + t) gap.after p.post (length b) 0 = tiles-kept b c (end + t) gap.after p.post
    (length b) 0 p.behind k.behind (omega (arith, n)) (λ i l low high. entry-behind b c gap i k l (omega arith)) in
    let place : end + t ≡ end - s + (s + t) = omega arith in
    let tail : Tiles c (end - s) (end - s) (Free (s + t) ∷ p.post) (length b) 0 = (
      omega arith,
      omega arith,
      refl,
      k.size,
      (λ e. p.apart (sym k.next ∙ e ∙ sym place)),
      subst (λ (g : ℕ). Tiles c (end - s + (s + t)) g p.post (length b) 0) (sym k.next)
          (subst (λ (x : ℕ). Tiles c x gap.after p.post (length b) 0) place behind),
    ) in
    let all : Tiles c (table_end b) (end - s) (p.pre ++ (p.mid ++ (Free (s + t) ∷ p.post))) (length b) 0 =
    tiles-join c (table_end b) (end - s) p.pre (p.mid ++ (Free (s + t) ∷ p.post)) f (end - s) (length b) 0 pre'
    (tiles-join c f (end - s) p.mid (Free (s + t) ∷ p.post) (end - s) (end - s) (length b) 0 middle tail) in (
      p.pre ++ (p.mid ++ (Free (s + t) ∷ p.post)),
      record {
        tiles = subst (λ (x : ℕ). Tiles c (table_end c) (first_free c) (p.pre ++ (p.mid ++ (Free (s + t) ∷ p.post))) x 0)
            (sym k.long) (subst (λ (x : ℕ). Tiles c (table_end c) x (p.pre ++ (p.mid ++ (Free (s + t) ∷ p.post))) (length b) 0)
            (sym k.first) (subst (λ (x : ℕ). Tiles c x (end - s) (p.pre ++ (p.mid ++ (Free (s + t) ∷ p.post))) (length b) 0) (sym start) all));
        all = (λ i h told. let l : i < entries b = omega arith in
            elim (p.all i l (offset-back b c gap i k (omega arith) l told)) [
              | inl x ↦ has-left i p.pre (p.mid ++ (Free (s + t) ∷ p.post)) x
              | inr y ↦ has-right i p.pre (p.mid ++ (Free (s + t) ∷ p.post)) (elim y [
                | inl x ↦ has-left i p.mid (Free (s + t) ∷ p.post) x
                | inr x ↦ has-right i p.mid (Free (s + t) ∷ p.post) x
              ])
            ]);
        total = omega (
          arith,
          free_bytes-append p.pre (p.mid ++ (Free (s + t) ∷ p.post)),
          free_bytes-append p.mid
              (Free (s + t) ∷ p.post),
          used-free p.pre p.pre_used,
          used-free p.mid p.mid_used,
          k.total,
          p.total,
        );
      },
    )

pub closed-heap : (b c : List ℕ) (gap : Gap) → IsHeader b → HasGap b gap → ClosesGap b c gap → IsHeap c
closed-heap b c gap header p k = (same-header b c header k.long k.head, closed-tiles b c gap header p k)

pub closed-chunks : (b c : List ℕ) (gap : Gap) → IsHeader b → HasGap b gap → ClosesGap b c gap → chunks c ≡ chunks b
closed-chunks b c gap header p k =
    let f = gap.first in
    let n : entries c ≡ entries b = head-word b c 12 10 k.head (omega arith) in
    chunks-same b c n (λ i h. chunk-cases b c (entry b i) (entry c i) (λ e. entry-before b c gap i k h (omega (arith, e)) ∙ e)
    (λ e. entry-behind b c gap i k h (omega (arith, e)) ∙ e) (λ told.
    elim (p.all i h told) [
      | inl x ↦ (let l = lies b (table_end b) f p.pre f f i p.before x in
          let wide = cost-four l.n l.some in
          let d : entry c i ≡ entry b i = entry-before b c gap i k h (omega arith) in
          chunk-stays b c (table_end b) f (entry b i) (entry c i) l k.before d (omega arith) (omega arith) told)
      | inr (inl x) ↦ (let l = lies b (f + gap.size) 0 p.mid gap.end 0 i p.middle x in
          let wide = cost-four l.n l.some in
          let d : entry c i + (f + gap.size) ≡ entry b i + f = entry-moves b c gap i k h (omega arith) (omega arith) in
          chunk-shifted b c (f + gap.size) f (f + gap.size) gap.end (gap.end - gap.size) (entry b i) (entry c i) l
          k.moved d (omega arith) (omega arith) (omega arith) (omega arith) told
          ((λ e. absurd (omega (arith, e))), (λ e. absurd (omega (arith, e)))))
      | inr (inr x) ↦ (let l = lies b (gap.end + gap.more) gap.after p.post (length b) 0 i p.behind x in
          let d : entry c i ≡ entry b i = entry-behind b c gap i k h (omega arith) in
          chunk-stays b c (gap.end + gap.more) (length b) (entry b i) (entry c i) l k.behind d (omega arith) (omega arith) told)
    ]))

-- a byte that those words leave
pub words-byte : (d : List ℕ) (gap : Gap) (k : ℕ) → (k < 12) ⊎ ((14 ≤ k) × (k < gap.end - gap.size)) ⊎ ((14 ≤ k) × (gap.end - gap.size + 4 ≤ k))
    → 16 ≤ gap.end - gap.size → get_or (closing_words d gap) k 0 ≡ get_or d k 0
unfolding closing_words
words-byte d gap k where_is low =
    let at = gap.end - gap.size in
    let d1 = with_word d at (gap.size + gap.more) in
    let d2 = with_word d1 (at + 2) gap.after in
    elim where_is [
      | inl h ↦ byte-other d2 12 at k (inl h) ∙ byte-other d1 (at + 2) gap.after k (inl (omega arith))
          ∙ byte-other d at (gap.size + gap.more) k (inl (omega arith))
      | inr (inl h) ↦ byte-other d2 12 at k (inr h.0) ∙ byte-other d1 (at + 2) gap.after k (inl (omega (arith, h.1)))
          ∙ byte-other d at (gap.size + gap.more) k (inl h.1)
      | inr (inr h) ↦ byte-other d2 12 at k (inr h.0) ∙ byte-other d1 (at + 2) gap.after k (inr (omega (arith, h.1)))
          ∙ byte-other d at (gap.size + gap.more) k (inr (omega (arith, h.1)))
    ]

-- a gap closes by a move and three words
pub closes : (b d c : List ℕ) (gap : Gap) → IsHeader b → HasGap b gap → gap.after < 65536
    → MovesRun b d (gap.first + gap.size) gap.end gap.first → c ≡ closing_words d gap → ClosesGap b c gap
unfolding closing_words
closes b d c gap header p small m is =
    let at = gap.end - gap.size in
    let four : 4 ≤ gap.size = omega arith in
    let low = tiles-le b (table_end b) gap.first p.pre gap.first gap.first p.before in
    let d1 = with_word d at (gap.size + gap.more) in
    let d2 = with_word d1 (at + 2) gap.after in
    let n1 = length-with_word d at (gap.size + gap.more) in
    let n2 = length-with_word d1 (at + 2) gap.after in
    let n3 = length-with_word d2 12 at in
    let byte : (k : ℕ) → (k < 12) ⊎ ((14 ≤ k) × (k < at)) ⊎ ((14 ≤ k) × (at + 4 ≤ k)) → get_or c k 0 ≡ get_or d k 0 =
    (λ k h. ap (λ x. get_or x k 0) is ∙ words-byte d gap k h (omega arith)) in
    let words : (j : ℕ) → word c j ≡ word (with_word d2 12 at) j = (λ j. ap (λ x. word x j) is) in
    record {
      long = ap length is ∙ n3 ∙ n2 ∙ n1 ∙ m.long;
      head = (λ k h. byte k (inl h) ∙ m.head k (omega arith));
      total = word-bytes b c 14 14 (byte 14 (inr (inl (omega arith, omega arith))) ∙ m.head 14 (omega arith))
          (byte 15 (inr (inl (omega arith, omega arith))) ∙ m.head 15 (omega arith));
      first = words 12 ∙ word-same d2 12 at (omega arith) (omega (arith, m.long, n1, n2));
      places = (λ i h. word-bytes d c (16 + 2 * i) (16 + 2 * i) (byte (16 + 2 * i) (inr (inl (omega arith, omega arith))))
          (byte (16 + 2 * i + 1) (inr (inl (omega arith, omega arith)))) ∙ m.entries i h);
      before = (λ j k e g r. let same : j ≡ k = omega arith in ap (λ x. get_or c x 0) same ∙ byte k (inr (inl (omega arith, omega arith)))
          ∙ m.before k g (omega arith) r);
      moved = (λ j k e g r. byte j (inr (inl (omega arith, omega arith))) ∙ m.moved j k e g r);
      size = words at ∙ word-other d2 12 at at (inr (omega arith)) ∙ word-other d1 (at + 2) gap.after at (inl (omega arith))
          ∙ word-same d at (gap.size + gap.more) (omega arith) (omega (arith, m.long));
      next = words (at + 2) ∙ word-other d2 12 at (at + 2) (inr (omega arith)) ∙ word-same d1 (at + 2) gap.after small (omega (arith, m.long, n1));
      behind = (λ j k e g r. let same : j ≡ k = omega arith in ap (λ x. get_or c x 0) same ∙ byte k (inr (inr (omega arith, omega arith)))
          ∙ m.behind k (omega arith) (omega arith));
    }

pub closing_words-is : (d d1 d2 d3 : List ℕ) (gap : Gap) → d1 ≡ with_word d (gap.end - gap.size) (gap.size + gap.more)
    → d2 ≡ with_word d1 (gap.end - gap.size + 2) gap.after → d3 ≡ with_word d2 12 (gap.end - gap.size) → d3 ≡ closing_words d gap
unfolding closing_words
closing_words-is d d1 d2 d3 gap e1 e2 e3 = e3 ∙ ap (λ x. with_word x 12 (gap.end - gap.size))
    (e2 ∙ ap (λ x. with_word x (gap.end - gap.size + 2) gap.after) e1)
