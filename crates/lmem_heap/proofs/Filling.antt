-- Chunks whose bytes become a hole, and holes that become a chunk.
use Rattle.std.proofs.Common.{◌≡◌, ◌≢◌, ℕ, ◌+◌, ◌-◌, ◌*◌, ◌%◌, ◌<◌, ◌≤◌, ◌⊎◌, List, [], ◌∷◌, ◌++◌, Some, None, length, get_or, set, refl, ap, sym, ◌∙◌, subst, inl, inr, arith}
use Rattle.std.proofs.lemmas.Bool.{cases_eq, cases_lt}
use Rattle.lmem_raw.specs.Bytes.{part}
use Rattle.geos_terms.specs.Bytes.{word, with_word, IsShifted}
use Rattle.geos_terms.specs.Chunks.{cost}
use Rattle.geos_terms.specs.Block.{entry, entries, table_end, first_free, total_free, chunk_at, chunks}
use Rattle.geos_terms.specs.Heap.{Piece, Used, Tiles, HasChunk, IsOffset, AreUsed, IsHeap, free_bytes}
use Rattle.geos_terms.proofs.Words.{word-same, word-other, length-with_word, byte-other, word-bytes}
use Rattle.geos_terms.proofs.Costs.{cost-four, cost-least, cost-fours}
use Rattle.geos_terms.proofs.Pieces.{lies, tiles-le, tiles-join, has-left, has-right, has-split, free_bytes-append}
use Rattle.geos_terms.proofs.Moves.{tiles-kept}
use Rattle.geos_terms.proofs.Tables.{chunks-set, chunk-kept}
use Rattle.geos_terms.proofs.Headers.{SameHead, head-word, same-header}
use Rattle.geos_terms.proofs.Entries.{told, chunk-told, chunk-none}
use Rattle.geos_terms.proofs.Found.{find}
use Rattle.geos_terms.proofs.FreePieces.{used-both}
use Rattle.lmem_heap.specs.Holes.{IsOpen}
use Rattle.lmem_heap.specs.Packed.{chunk_end, chunk_length}
use Rattle.lmem_heap.proofs.FreeLists.{link-place, open-place, tiles-fours}
use Rattle.lmem_heap.proofs.Relinking.{Apart, KeepsBack, Relinks, relinked, kept-chunk}

-- an entry other than one that was written
other-entry : (b c : List ℕ) (i j w : ℕ) → c ≡ with_word b (16 + 2 * i) w → j ≢ i → entry c j ≡ entry b j
other-entry b c i j w is ne = ap (λ x. entry x j) is ∙ elim (cases_lt j i) [
  | inl l ↦ word-other b (16 + 2 * i) w (16 + 2 * j) (inl (omega arith))
  | inr g ↦ word-other b (16 + 2 * i) w (16 + 2 * j) (inr (omega arith))
]

-- the hole that a chunk leaves, and what is known of the chunk
pub record LeftHole (b c : List ℕ) (i : ℕ) : Type 0 where
  pub is : IsOpen c 12 (entry b i - 2) (chunk_end b i)
  pub some : 0 < chunk_length b i
  pub says : word b (entry b i - 2) ≡ chunk_length b i + 2
  pub low : table_end b + 2 ≤ entry b i
  pub high : chunk_end b i ≤ length b
  pub fours : (entry b i - 2) % 4 ≡ 0
  pub chunks : chunks c ≡ set (chunks b) i None
  pub handle : word c 0 ≡ word b 0
  pub count : entries c ≡ entries b
  pub here : entry c i ≡ 0
  pub bytes : IsShifted b c 0 0 (table_end b) (length b)

pub left-hole : (b c : List ℕ) (i : ℕ) → IsHeap b → i < entries b → IsOffset (entry b i) → c ≡ with_word b (16 + 2 * i) 0 → LeftHole b c i
left-hole b c i heap h t is =
    let e = entry b i in
    let r = find b (table_end b) (word b 12) heap.1.0 (length b) 0 i heap.1.1.tiles (heap.1.1.all i h t) in
    let m : r.n ≡ chunk_length b i = omega (arith, r.size) in
    let end : e - 2 + cost r.n ≡ chunk_end b i = ap (λ x. e - 2 + cost x) m in
    let wide = cost-four r.n r.some in
    let le = tiles-le b (e - 2 + cost r.n) r.g r.post (length b) 0 r.behind in
    let long : length c ≡ length b = ap length is ∙ length-with_word b (16 + 2 * i) 0 in
    let head : SameHead b c 12 = (λ k l. ap (λ x. get_or x k 0) is ∙ byte-other b (16 + 2 * i) 0 k (inl (omega arith))) in
    let n : entries c ≡ entries b = head-word b c 12 10 head (omega arith) in
    let here : entry c i ≡ 0 = ap (λ x. entry x i) is ∙ word-same b (16 + 2 * i) 0 (omega arith) (omega arith) in
    let each : (j : ℕ) → j ≢ i → entry c j ≡ entry b j = (λ j ne. other-entry b c i j 0 is ne) in
    let far : (lo hi : ℕ) → table_end b ≤ lo → IsShifted b c 0 0 lo hi = (λ lo hi g j k q u v. let same : j ≡ k = omega arith in
    ap (λ x. get_or c x 0) same ∙ ap (λ x. get_or x k 0) is ∙ byte-other b (16 + 2 * i) 0 k (inr (omega arith))) in
    let apart : (j : ℕ) → (entry b j ≡ e → ⊥) → j ≢ i = (λ j no same. no (ap (λ x. entry b x) same)) in
    let pre : Tiles c (table_end b) (word b 12) r.pre (e - 2) r.g = tiles-kept b c (table_end b) (word b 12) r.pre
    (e - 2) r.g r.before (far (table_end b) (e - 2) (omega arith)) (omega (arith, n)) (λ j l a z. each j (apart j (λ q. absurd (omega arith)))) in
    let post : Tiles c (e - 2 + cost r.n) r.g r.post (length b) 0 = tiles-kept b c (e - 2 + cost r.n) r.g r.post
    (length b) 0 r.behind (far (e - 2 + cost r.n) (length b) (omega arith)) (omega (arith, n))
    (λ j l a z. each j (apart j (λ q. absurd (omega arith)))) in
    let first : word b 12 ≡ word c 12 = sym (ap (λ x. word x 12) is ∙ word-other b (16 + 2 * i) 0 12 (inl (omega arith))) in
    let total : total_free c ≡ total_free b = ap (λ x. word x 14) is ∙ word-other b (16 + 2 * i) 0 14 (inl (omega arith)) in
    let start_fours : table_end b % 4 ≡ 0 = omega (arith, heap.0.pairs) in
    let split : (j : ℕ) → j < entries b → IsOffset (entry b j) → j ≢ i → HasChunk j r.pre ⊎ HasChunk j r.post = (λ j l u ne.
    elim (has-split j r.pre (Used i r.n ∷ r.post) (subst (λ (ps : List Piece). HasChunk j ps) r.is (heap.1.1.all j l u)))
    [ inl x ↦ inl x | inr x ↦ elim x [ inl z ↦ absurd (ne z) | inr y ↦ inr y ] ]) in
    record {
      is = record {
        header = same-header b c heap.0 long head;
        before = [];
        upto = table_end b;
        ahead = r.pre;
        next = r.g;
        behind = r.post;
        linked = inl (record { is = refl; none = refl; start = omega (arith, n) });
        tiles_ahead = subst (λ (x : ℕ). Tiles c (table_end b) x r.pre (e - 2) r.g) first pre;
        tiles_behind = subst (λ (x : ℕ). Tiles c (chunk_end b i) r.g r.post x 0) (sym long)
            (subst (λ (x : ℕ). Tiles c x r.g r.post (length b) 0) end post);
        order = omega (arith, end);
        fours = tiles-fours b (table_end b) (word b 12) r.pre (e - 2) r.g r.before start_fours;
        all = (λ j l u. let ne : j ≢ i = (λ q. u.0 (ap (λ x. entry c x) q ∙ here)) in let d = each j ne in
            inr (split j (omega (arith, n)) ((λ z. u.0 (d ∙ z)), (λ z. u.1 (d ∙ z))) ne));
        total = (let g = ap free_bytes r.is ∙ free_bytes-append r.pre (Used i r.n ∷ r.post) in omega (arith, total, heap.1.1.total, g));
      };
      some = omega (arith, m);
      says = omega (arith, r.size, m);
      low = r.low;
      high = omega (arith, end);
      fours = tiles-fours b (table_end b) (word b 12) r.pre (e - 2) r.g r.before start_fours;
      chunks = chunks-set b c i None n h (chunk-none c (entry c i) here)
          (λ j l ne. chunk-kept b c j (table_end b) (length b) (omega arith) (omega (arith, long)) (each j ne)
          (told b j heap l) (far (table_end b) (length b) (omega arith)));
      handle = ap (λ x. word x 0) is ∙ word-other b (16 + 2 * i) 0 0 (inl (omega arith));
      count = n;
      here = here;
      bytes = far (table_end b) (length b) (omega arith);
    }

-- an entry has a new chunk at an offset; the bytes before it,
-- and from another offset on, are unchanged except for the entry
pub record HasPut (b c : List ℕ) (i at to : ℕ) (bytes : List ℕ) : Type 0 where
  pub head : SameHead b c 12
  pub count : entries c ≡ entries b
  pub each : (j : ℕ) → j < entries b → j ≢ i → entry c j ≡ entry b j
  pub front : (lo hi : ℕ) → table_end b ≤ lo → hi ≤ at → IsShifted b c 0 0 lo hi
  pub rear : (lo hi : ℕ) → to ≤ lo → IsShifted b c 0 0 lo hi
  pub first : first_free c ≡ first_free b
  pub total : total_free c ≡ total_free b
  pub chunk : chunk_at c (entry c i) ≡ Some bytes

pub has-put : (b c : List ℕ) (i at to n : ℕ) (bytes : List ℕ) → i < entries b → table_end b ≤ at → at ≤ 65520
    → ((k : ℕ) → k < at → Apart k (16 + 2 * i) → get_or c k 0 ≡ get_or b k 0) → KeepsBack b c to →
    entry c i ≡ at + 2 → word c at ≡ n + 2 → part c (at + 2) n ≡ bytes → HasPut b c i at to bytes
has-put b c i at to n bytes h low most keep back here says content =
    let head : SameHead b c 12 = (λ q l. keep q (omega arith) (inl (omega arith))) in
    let told : IsOffset (entry c i) = ((λ z. absurd (omega (arith, z, here))), (λ z. absurd (omega (arith, z, here)))) in
    let begin : entry c i - 2 ≡ at = omega (arith, here) in
    let size : word c (entry c i - 2) - 2 ≡ n = ap (λ x. word c x - 2) begin ∙ omega (arith, says) in
    record {
      head = head;
      count = head-word b c 12 10 head (omega arith);
      each = (λ j l ne. elim (cases_lt j i) [
        | inl a ↦ word-bytes b c (16 + 2 * j) (16 + 2 * j) (keep (16 + 2 * j) (omega arith) (inl (omega arith)))
            (keep (16 + 2 * j + 1) (omega arith) (inl (omega arith)))
        | inr a ↦ word-bytes b c (16 + 2 * j) (16 + 2 * j) (keep (16 + 2 * j) (omega arith) (inr (omega arith)))
            (keep (16 + 2 * j + 1) (omega arith) (inr (omega arith)))
      ]);
      front = (λ lo hi g l j q e u v. let same : j ≡ q = omega arith in ap (λ x. get_or c x 0) same ∙ keep q (omega arith) (inr (omega arith)));
      rear = (λ lo hi g j q e u v. let same : j ≡ q = omega arith in ap (λ x. get_or c x 0) same ∙ back q (omega arith));
      first = word-bytes b c 12 12 (keep 12 (omega arith) (inl (omega arith))) (keep 13 (omega arith) (inl (omega arith)));
      total = word-bytes b c 14 14 (keep 14 (omega arith) (inl (omega arith))) (keep 15 (omega arith) (inl (omega arith)));
      chunk = chunk-told c (entry c i) told ∙ ap (λ x. Some (part c (entry c i) x)) size ∙ ap (λ x. Some (part c x n)) here
          ∙ ap (λ x. Some x) content;
    }

-- what the front of a hole is as a chunk
pub record Filled (b c : List ℕ) (link at end i n : ℕ) (bytes : List ℕ) (o : IsOpen b link at end) : Type 0 where
  pub is : IsOpen c link (at + cost n) end
  pub used : AreUsed o.ahead → AreUsed is.ahead
  pub chunks : chunks c ≡ set (chunks b) i (Some bytes)
  pub handle : word c 0 ≡ word b 0
  pub same_link : word c link ≡ word b link

pub filled : (b c : List ℕ) (link at end i n : ℕ) (bytes : List ℕ) → (o : IsOpen b link at end) → 0 < n → at + cost n ≤ end
    → i < entries b → entry b i ≡ 0 → length c ≡ length b →
    ((k : ℕ) → k < at → Apart k (16 + 2 * i) → get_or c k 0 ≡ get_or b k 0) → KeepsBack b c (at + cost n)
    → entry c i ≡ at + 2 → word c at ≡ n + 2 → part c (at + 2) n ≡ bytes → Filled b c link at end i n bytes o
filled b c link at end i n bytes o some fits h none long keep back here says content =
    let p = open-place b link at end o in
    let k = link-place b link o.upto o.before o.linked in
    let wide = cost-least n some in
    let four = cost-fours n in
    let le = tiles-le b o.upto (word b link) o.ahead at o.next o.tiles_ahead in
    let w = has-put b c i at (at + cost n) n bytes h p.low (omega arith) keep back here says content in
    let rear = w.rear end (length b) fits in
    let apart : (j : ℕ) → table_end b + 2 ≤ entry b j → j ≢ i = (λ j a q. let z : entry b j ≡ 0 = ap (λ x. entry b x) q
    ∙ none in absurd (omega (arith, a, z))) in
    let link_same : word c link ≡ word b link = elim p.link_out [
      | inl e ↦ word-bytes b c link link (keep link (omega arith) (inl (omega (arith, e)))) (keep (link + 1) (omega arith) (inl (omega (arith, e))))
      | inr f ↦ word-bytes b c link link (keep link (omega arith) (inr (omega (arith, f)))) (keep (link + 1) (omega arith) (inr (omega (arith, f))))
    ] in
    let r : Relinks b c link at o.upto = record {
      long = long;
      head = w.head;
      each = (λ j l a z. w.each j l (apart j a));
      low = w.front (table_end b) (link - 2) (omega arith) (omega arith);
      says = (λ f. word-bytes b c (link - 2) (link - 2) (keep (link - 2) (omega arith) (inr (omega arith)))
          (keep (link - 2 + 1) (omega arith) (inr (omega arith))));
      first = (λ f. w.first);
      apart = (λ f e. elim o.linked [ inl k1 ↦ (absurd (omega (arith, k1.is, f))) | inr k1 ↦ k1.apart (sym link_same ∙ e) ]);
      mid = w.front o.upto at k.start (omega arith);
    } in
    let ahead : Tiles c o.upto (word b link) o.ahead at o.next = tiles-kept b c o.upto (word b link) o.ahead at o.next
    o.tiles_ahead r.mid (omega (arith, w.count)) (λ j l a z. w.each j l (apart j (omega arith))) in
    let behind : Tiles c end o.next o.behind (length b) 0 = tiles-kept b c end o.next o.behind (length b) 0 o.tiles_behind rear
    (omega (arith, w.count)) (λ j l a z. w.each j l (apart j (omega arith))) in
    let mine : Tiles c at o.next (Used i n ∷ []) (at + cost n) o.next = (some, omega (arith, w.count), here, says, (refl, refl)) in
    record {
      is = record {
        header = same-header b c o.header long w.head;
        before = o.before;
        upto = o.upto;
        ahead = o.ahead ++ (Used i n ∷ []);
        next = o.next;
        behind = o.behind;
        linked = relinked b c link at o.upto o.before o.header o.linked le r;
        tiles_ahead = tiles-join c o.upto (word c link) o.ahead (Used i n ∷ []) at o.next (at + cost n) o.next
            (subst (λ (x : ℕ). Tiles c o.upto x o.ahead at o.next) (sym link_same) ahead) mine;
        tiles_behind = subst (λ (x : ℕ). Tiles c end o.next o.behind x 0) (sym long) behind;
        order = fits;
        fours = omega (arith, four, o.fours);
        all = (λ j l u. elim (cases_eq j i) [
          | inl q ↦ inr (inl (has-right j o.ahead (Used i n ∷ []) (inl q)))
          | inr ne ↦ (let lb : j < entries b = omega (arith, w.count) in let d = w.each j lb ne in
              elim (o.all j lb ((λ z. u.0 (d ∙ z)), (λ z. u.1 (d ∙ z)))) [
                | inl x ↦ inl x
                | inr x ↦ inr (elim x [ inl y ↦ inl (has-left j o.ahead (Used i n ∷ []) y) | inr y ↦ inr y ])
              ])
        ]);
        total = omega (arith, o.total, free_bytes-append o.ahead (Used i n ∷ []), w.total);
      };
      used = (λ u. used-both o.ahead (Used i n ∷ []) u tt);
      chunks = chunks-set b c i (Some bytes) w.count h w.chunk
          (λ j l ne. kept-chunk b c link at end end j o long r.low r.mid rear (λ x. lies b end o.next o.behind (length b) 0 j o.tiles_behind x) l
          (w.each j l ne));
      handle = head-word b c 12 0 w.head (omega arith);
      same_link = link_same;
    }
