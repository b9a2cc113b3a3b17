-- A chunk that moves into a hole, and the hole that it leaves.
use Rattle.std.proofs.Common.{◌≡◌, ◌≢◌, ℕ, ◌+◌, ◌-◌, ◌*◌, ◌%◌, ◌<◌, ◌≤◌, ◌⊎◌, List, [], ◌∷◌, ◌++◌, Some, length, get_or, set, replicate, drop, refl, ap, sym, ◌∙◌, subst, inl, inr, arith}
use Rattle.std.proofs.lemmas.Bool.{cases_eq}
use Rattle.std.proofs.lemmas.List.{get_or-take, get_or-drop}
use Rattle.lmem_raw.specs.Bytes.{part, with_part}
use Rattle.lmem_raw.proofs.Parts.{length-with_part}
use Rattle.geos_terms.specs.Bytes.{word, with_word}
use Rattle.geos_terms.specs.Chunks.{cost, resized}
use Rattle.geos_terms.specs.Block.{entry, entries, table_end, first_free, chunks}
use Rattle.geos_terms.specs.Heap.{Piece, Used, Tiles, HasChunk, IsOffset, free_bytes}
use Rattle.geos_terms.proofs.Words.{word-bytes, get_or-with_part_before, get_or-with_part_behind, get_or-with_part_within}
use Rattle.geos_terms.proofs.Costs.{cost-four, cost-least}
use Rattle.geos_terms.proofs.Pieces.{lies, tiles-le, tiles-join, has-left, has-right, has-split, free_bytes-append}
use Rattle.geos_terms.proofs.Moves.{tiles-kept}
use Rattle.geos_terms.proofs.Resizes.{length-part}
use Rattle.geos_terms.proofs.Tables.{chunks-set}
use Rattle.geos_terms.proofs.Headers.{head-word, same-header}
use Rattle.geos_terms.proofs.Found.{Found, find}
use Rattle.lmem_heap.specs.Holes.{IsOpen}
use Rattle.lmem_heap.specs.Packed.{chunk_end, chunk_length}
use Rattle.lmem_heap.proofs.Contents.{length-zeros, beside-zeros, within-zeros, kept-bytes}
use Rattle.lmem_heap.proofs.Filling.{has-put}
use Rattle.lmem_heap.proofs.FreeLists.{link-tiles, link-place, open-place, tiles-fours}
use Rattle.lmem_heap.proofs.Relinking.{Apart, KeepsBack, other, clear, put, long, kept-chunk}

-- the chunk of an entry lies before the hole or after it
pub data Side (b : List ℕ) (link at end i : ℕ) (o : IsOpen b link at end) : Type 0 where
  Before : Found b (table_end b) (first_free b) (o.before ++ o.ahead) at o.next i → Side b link at end i o
  Behind : Found b end o.next o.behind (length b) 0 i → Side b link at end i o

-- the pieces before a hole
front : (b : List ℕ) (link at end : ℕ) → (o : IsOpen b link at end) → Tiles b (table_end b) (first_free b) (o.before ++ o.ahead) at o.next
front b link at end o = tiles-join b (table_end b) (first_free b) o.before o.ahead o.upto (word b link) at o.next
    (link-tiles b link o.upto o.before o.linked) o.tiles_ahead

pub side : (b : List ℕ) (link at end i : ℕ) → (o : IsOpen b link at end) → i < entries b → IsOffset (entry b i) → Side b link at end i o
side b link at end i o h t = elim (o.all i h t) [
  | inl x ↦ Before (find b (table_end b) (first_free b) (o.before ++ o.ahead) at o.next i (front b link at end o) (has-left i o.before o.ahead x))
  | inr (inl y) ↦ Before (find b (table_end b) (first_free b) (o.before ++ o.ahead) at o.next i (front b link at end o)
      (has-right i o.before o.ahead y))
  | inr (inr y) ↦ Behind (find b end o.next o.behind (length b) 0 i o.tiles_behind y)
]

-- where that chunk lies
pub record Aside (b : List ℕ) (at end i : ℕ) : Type 0 where
  pub some : 0 < chunk_length b i
  pub size : word b (entry b i - 2) ≡ chunk_length b i + 2
  pub low : table_end b + 2 ≤ entry b i
  pub out : (chunk_end b i ≤ at) ⊎ (end + 2 ≤ entry b i)
  pub high : chunk_end b i ≤ length b

pub aside : (b : List ℕ) (link at end i : ℕ) → (o : IsOpen b link at end) → i < entries b → IsOffset (entry b i) → Aside b at end i
aside b link at end i o h t =
    let p = open-place b link at end o in
    elim (side b link at end i o h t) [
      | Before r ↦ (let n : r.n ≡ chunk_length b i = omega (arith, r.size) in let c = ap cost n in
          let le = tiles-le b (entry b i - 2 + cost r.n) r.g r.post at o.next r.behind in
          record {
            some = omega (arith, r.some, n);
            size = omega (arith, r.size, n);
            low = r.low;
            out =
                inl (omega (arith, le, c));
            high = omega (arith, le, c, p.high, o.order);
          })
      | Behind r ↦ (let n : r.n ≡ chunk_length b i = omega (arith, r.size) in let c = ap cost n in
          let le = tiles-le b (entry b i - 2 + cost r.n) r.g r.post (length b) 0 r.behind in
          record {
            some = omega (arith, r.some, n);
            size = omega (arith, r.size, n);
            low = omega (arith, r.low, p.low, o.order);
            out =
                inr r.low;
            high = omega (arith, le, c);
          })
    ]

-- what a chunk that moved into the hole leaves
pub record Redirects (b c : List ℕ) (i : ℕ) (bytes : List ℕ) : Type 0 where
  pub is : IsOpen c 12 (entry b i - 2) (chunk_end b i)
  pub chunks : chunks c ≡ set (chunks b) i (Some bytes)
  pub handle : word c 0 ≡ word b 0

pub redirects : (b c : List ℕ) (link at end i n : ℕ) (bytes : List ℕ) → (o : IsOpen b link at end) → i < entries b
    → IsOffset (entry b i) → 0 < n → at + cost n ≡ end → length c ≡ length b →
    ((k : ℕ) → k < at → Apart k (16 + 2 * i) → get_or c k 0 ≡ get_or b k 0) → KeepsBack b c end → entry c i ≡ at + 2
    → word c at ≡ n + 2 → part c (at + 2) n ≡ bytes → Redirects b c i bytes
redirects b c link at end i n bytes o h t some whole long keep back here says content =
    let p = open-place b link at end o in
    let e = entry b i in
    let four = cost-four n some in
    let k = link-place b link o.upto o.before o.linked in
    let w = has-put b c i at end n bytes h p.low (omega arith) keep back here says content in
    let m = w.count in
    let apart : (j : ℕ) → (entry b j ≡ e → ⊥) → j ≢ i = (λ j no same. no (ap (λ x. entry b x) same)) in
    let start_is : table_end b ≡ table_end c = ap (λ x. 16 + 2 * x) (sym m) in
    let first = sym w.first in
    let spelled = chunks-set b c i (Some bytes) m h w.chunk (λ j l ne. kept-chunk b c link at end end j o long
    (w.front (table_end b) (link - 2) (omega arith) (omega arith)) (w.front o.upto at k.start (omega arith)) (w.rear end (length b) (omega arith))
    (λ x. lies b end o.next o.behind (length b) 0 j o.tiles_behind x) l (w.each j l ne)) in
    let kept : (j : ℕ) → j < entries c → IsOffset (entry c j) → j ≢ i → HasChunk j (o.before ++ o.ahead) ⊎ HasChunk j o.behind =
    (λ j l u ne. let lb : j < entries b = omega (arith, m) in let d = w.each j lb ne in
    elim (o.all j lb ((λ z. u.0 (d ∙ z)), (λ z. u.1 (d ∙ z)))) [
      | inl x ↦ inl (has-left j o.before o.ahead x)
      | inr
          x ↦ elim x [ inl y ↦ inl (has-right j o.before o.ahead y) | inr y ↦ inr y ]
    ]) in
    let start_fours : table_end b % 4 ≡ 0 = omega (arith, o.header.pairs) in
    let mine_room : at + cost n ≡ end = whole in
    let app = free_bytes-append o.before o.ahead in
    let P = o.before ++ o.ahead in
    let whole_front = front b link at end o in
    let handle = head-word b c 12 0 w.head (omega arith) in
    elim (side b link at end i o h t) [
      | Before r ↦ (let wide = cost-four r.n r.some in
          let n_is : r.n ≡ chunk_length b i = omega (arith, r.size) in
          let end_is : e - 2 + cost r.n ≡ chunk_end b i = ap (λ x. e - 2 + cost x) n_is in
          let le = tiles-le b (e - 2 + cost r.n) r.g r.post at o.next r.behind in
          let pre : Tiles c (table_end b) (first_free b) r.pre (e - 2) r.g = tiles-kept b c (table_end b)
          (first_free b) r.pre (e - 2) r.g r.before (w.front (table_end b) (e - 2) (omega arith) (omega arith))
          (omega (arith, m)) (λ j l a z. w.each j l (apart j (λ q. absurd (omega arith)))) in
          let post : Tiles c (e - 2 + cost r.n) r.g r.post at o.next = tiles-kept b c (e - 2 + cost r.n) r.g r.post
          at o.next r.behind (w.front (e - 2 + cost r.n) at (omega arith) (omega arith)) (omega (arith, m))
          (λ j l a z. w.each j l (apart j (λ q. absurd (omega arith)))) in
          let behind : Tiles c end o.next o.behind (length b) 0 = tiles-kept b c end o.next o.behind (length b) 0
          o.tiles_behind (w.rear end (length b) (omega arith)) (omega (arith, m)) (λ j l a z. w.each j l (apart j (λ q. absurd (omega arith)))) in
          let mine : Tiles c at o.next (Used i n ∷ o.behind) (length b) 0 =
          (some, omega (arith, m), here, says, subst (λ (x : ℕ). Tiles c x o.next o.behind (length b) 0) (sym whole) behind) in
          let rest = tiles-join c (e - 2 + cost r.n) r.g r.post (Used i n ∷ o.behind) at o.next (length b) 0 post mine in
          record {
            is = record {
              header = same-header b c o.header long w.head;
              before = [];
              upto = table_end b;
              ahead = r.pre;
              next = r.g;
              behind = r.post ++ (Used i n ∷ o.behind);
              linked = inl (record { is = refl; none = refl; start = start_is });
              tiles_ahead = subst (λ (x : ℕ). Tiles c (table_end b) x r.pre (e - 2) r.g) first pre;
              tiles_behind = subst (λ (x : ℕ). Tiles c (chunk_end b i) r.g (r.post ++ (Used i n ∷ o.behind)) x 0)
                  (sym long) (subst (λ (x : ℕ). Tiles c x r.g (r.post ++ (Used i n ∷ o.behind)) (length b) 0) end_is rest);
              order = omega (arith, end_is);
              fours = tiles-fours b (table_end b) (first_free b) r.pre (e - 2) r.g r.before start_fours;
              all = (λ j l u. inr (elim (cases_eq j i) [
                | inl q ↦ inr (has-right j r.post (Used i n ∷ o.behind) (inl q))
                | inr ne ↦ elim (kept j l u ne) [
                  | inl x ↦ (elim (has-split j r.pre (Used i r.n ∷ r.post) (subst (λ (ps : List Piece). HasChunk j ps) r.is x)) [
                    | inl y ↦ inl y
                    | inr y ↦ elim y [ inl q ↦ absurd (ne q) | inr z ↦ inr (has-left j r.post (Used i n ∷ o.behind) z) ]
                  ])
                  | inr x ↦ inr (has-right j r.post (Used i n ∷ o.behind) (inr x))
                ]
              ]));
              total = (let g = ap free_bytes r.is ∙ free_bytes-append r.pre (Used i r.n ∷ r.post) in
                  omega (arith, o.total, app, g, free_bytes-append r.post (Used i n ∷ o.behind), w.total));
            };
            chunks = spelled;
            handle = handle;
          })
      | Behind r ↦ (let wide = cost-four r.n r.some in
          let n_is : r.n ≡ chunk_length b i = omega (arith, r.size) in
          let end_is : e - 2 + cost r.n ≡ chunk_end b i = ap (λ x. e - 2 + cost x) n_is in
          let le = tiles-le b (e - 2 + cost r.n) r.g r.post (length b) 0 r.behind in
          let pre : Tiles c end o.next r.pre (e - 2) r.g = tiles-kept b c end o.next r.pre (e - 2) r.g r.before
          (w.rear end (e - 2) (omega arith)) (omega (arith, m)) (λ j l a z. w.each j l (apart j (λ q. absurd (omega arith)))) in
          let post : Tiles c (e - 2 + cost r.n) r.g r.post (length b) 0 = tiles-kept b c (e - 2 + cost r.n) r.g r.post
          (length b) 0 r.behind (w.rear (e - 2 + cost r.n) (length b) (omega arith)) (omega (arith, m))
          (λ j l a z. w.each j l (apart j (λ q. absurd (omega arith)))) in
          let pieces : Tiles c (table_end b) (first_free b) P at o.next = tiles-kept b c (table_end b) (first_free b)
          P at o.next whole_front (w.front (table_end b) at (omega arith) (omega arith)) (omega (arith, m))
          (λ j l a z. w.each j l (apart j (λ q. absurd (omega arith)))) in
          let mine : Tiles c at o.next (Used i n ∷ r.pre) (e - 2) r.g =
          (some, omega (arith, m), here, says, subst (λ (x : ℕ). Tiles c x o.next r.pre (e - 2) r.g) (sym whole) pre) in
          let ahead = tiles-join c (table_end b) (first_free b) P (Used i n ∷ r.pre) at o.next (e - 2) r.g pieces mine in
          record {
            is = record {
              header = same-header b c o.header long w.head;
              before = [];
              upto = table_end b;
              ahead = P ++ (Used i n ∷ r.pre);
              next = r.g;
              behind = r.post;
              linked = inl (record { is = refl; none = refl; start = start_is });
              tiles_ahead = subst (λ (x : ℕ). Tiles c (table_end b) x (P ++ (Used i n ∷ r.pre)) (e - 2) r.g) first ahead;
              tiles_behind = subst (λ (x : ℕ). Tiles c (chunk_end b i) r.g r.post x 0) (sym long)
                  (subst (λ (x : ℕ). Tiles c x r.g r.post (length b) 0) end_is post);
              order = omega (arith, end_is);
              fours = tiles-fours c (table_end b) (first_free b) (P ++ (Used i n ∷ r.pre)) (e - 2) r.g ahead start_fours;
              all = (λ j l u. inr (elim (cases_eq j i) [
                | inl q ↦ inl (has-right j P (Used i n ∷ r.pre) (inl q))
                | inr ne ↦ elim (kept j l u ne) [
                  | inl x ↦ inl (has-left j P (Used i n ∷ r.pre) x)
                  | inr x ↦ (elim (has-split j r.pre (Used i r.n ∷ r.post) (subst (λ (ps : List Piece). HasChunk j ps) r.is x)) [
                    | inl y ↦ inl (has-right j P (Used i n ∷ r.pre) (inr y))
                    | inr y ↦ elim y [ inl q ↦ absurd (ne q) | inr z ↦ inr z ]
                  ])
                ]
              ]));
              total = (let g = ap free_bytes r.is ∙ free_bytes-append r.pre (Used i r.n ∷ r.post) in
                  omega (arith, o.total, app, g, free_bytes-append P (Used i n ∷ r.pre), w.total));
            };
            chunks = spelled;
            handle = handle;
          })
    ]

-- the writes that move a chunk into a hole: its entry, the size word, the bytes that it keeps,
-- and zeros
pub moved-in-hole : (b d1 d2 d3 c : List ℕ) (link at end i keep n : ℕ) → (o : IsOpen b link at end) → i < entries b
    → IsOffset (entry b i) → 0 < n → at + cost n ≡ end → keep ≤ n → keep ≤ chunk_length b i → (n ≤ keep) ⊎ (chunk_length b i ≤ keep) →
    d1 ≡ with_word b (16 + 2 * i) (at + 2) → d2 ≡ with_word d1 at (n + 2) → d3 ≡ with_part d2 (at + 2) (part d2 (entry b i) keep)
    → c ≡ with_part d3 (at + 2 + keep) (replicate (n - keep) 0) →
    Redirects b c i (resized (part b (entry b i) (chunk_length b i)) n)
moved-in-hole b d1 d2 d3 c link at end i keep n o h t some whole keep_n keep_len exact e1 e2 e3 e4 =
    let p = open-place b link at end o in
    let wide = cost-least n some in
    let a = aside b link at end i o h t in
    let len = chunk_length b i in
    let e = entry b i in
    let wide_e = cost-least len a.some in
    let moved = part d2 e keep in
    let n1 = long b d1 (16 + 2 * i) (at + 2) e1 in
    let n2 = long d1 d2 at (n + 2) e2 in
    let n3 : length d3 ≡ length d2 = ap length e3 ∙ length-with_part d2 (at + 2) moved in
    let n4 = length-zeros d3 c (at + 2 + keep) (n - keep) e4 in
    let nm : length moved ≡ keep = length-part d2 e keep (omega (arith, n1, n2)) in
    let byte4 : (k : ℕ) → (k < at + 2 + keep) ⊎ (at + 2 + n ≤ k) → get_or c k 0 ≡ get_or d3 k 0 =
    (λ k out. beside-zeros d3 c (at + 2 + keep) (n - keep) k e4 (elim out [ inl l ↦ inl l | inr g ↦ inr (omega arith) ])) in
    let byte3 : (k : ℕ) → (k < at + 2) ⊎ (at + 2 + keep ≤ k) → get_or d3 k 0 ≡ get_or d2 k 0 = (λ k out. ap (λ x. get_or x k 0) e3 ∙ elim out [
      | inl l ↦ get_or-with_part_before d2 (at + 2) moved k l
      | inr g ↦ get_or-with_part_behind d2 (at + 2) moved k (omega (arith, nm))
    ]) in
    let byte2 : (k : ℕ) → Apart k at → Apart k (16 + 2 * i) → get_or d2 k 0 ≡ get_or b k 0 =
    (λ k u v. other d1 d2 at (n + 2) k e2 u ∙ other b d1 (16 + 2 * i) (at + 2) k e1 v) in
    let back : KeepsBack b c end = (λ k l. byte4 k (inr (omega arith)) ∙ byte3 k (inr (omega arith))
    ∙ byte2 k (inr (omega arith)) (inr (omega arith))) in
    let keeps : (k : ℕ) → k < at → Apart k (16 + 2 * i) → get_or c k 0 ≡ get_or b k 0 =
    (λ k l u. byte4 k (inl (omega arith)) ∙ byte3 k (inl (omega arith)) ∙ byte2 k (inl l) u) in
    let words : (j : ℕ) → j + 2 ≤ at + 2 → word c j ≡ word d2 j =
    (λ j l. word-bytes d2 c j j (byte4 j (inl (omega arith)) ∙ byte3 j (inl (omega arith)))
    (byte4 (j + 1) (inl (omega arith)) ∙ byte3 (j + 1) (inl (omega arith)))) in
    let here : entry c i ≡ at + 2 = words (16 + 2 * i) (omega arith) ∙ clear d1 d2 at (n + 2) (16 + 2 * i) e2 (inl (omega arith))
    ∙ put b d1 (16 + 2 * i) (at + 2) e1 (omega arith) (omega arith) in
    let says : word c at ≡ n + 2 = words at (omega arith) ∙ put d1 d2 at (n + 2) e2 (omega arith) (omega (arith, n1)) in
    let old = part b e len in
    let no = length-part b e len (omega arith) in
    let from : (q : ℕ) → q < keep → Apart (e + q) at = (λ q l. elim a.out [ inl z ↦ inl (omega (arith, z)) | inr z ↦ inr (omega (arith, z)) ]) in
    let content : part c (at + 2) n ≡ resized old n = kept-bytes old c (at + 2) keep n (omega (arith, n1, n2, n3, n4))
    (elim exact [ inl z ↦ inl z | inr z ↦ inr (omega (arith, no, z)) ])
    (λ q stays small. byte4 (at + 2 + q) (inl (omega arith)) ∙ ap (λ x. get_or x (at + 2 + q) 0) e3
    ∙ get_or-with_part_within d2 (at + 2) moved (at + 2 + q) q refl (omega (arith, nm)) (omega (arith, n1, n2))
    ∙ get_or-take keep (drop e d2) q 0 stays ∙ get_or-drop e d2 q 0 ∙ byte2 (e + q) (from q stays) (inr (omega arith))
    ∙ sym (get_or-take len (drop e b) q 0 (omega arith) ∙ get_or-drop e b q 0))
    (λ q new small. within-zeros d3 c (at + 2 + keep) (n - keep) (at + 2 + q) e4 (omega (arith, n1, n2, n3)) (omega arith) (omega arith)) in
    redirects b c link at end i n (resized old n) o h t some whole (n4 ∙ n3 ∙ n2 ∙ n1) keeps back here says content
