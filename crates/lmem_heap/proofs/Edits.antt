-- A chunk of a packed heap that goes, or gets another length.
use Rattle.std.proofs.Common.{◌≡◌, ◌≢◌, ℕ, ◌+◌, ◌-◌, ◌*◌, ◌<◌, ◌≤◌, ◌⊎◌, List, ◌∷◌, ◌++◌, Some, None, length, drop, set, get_or, ap, sym, ◌∙◌, subst, inl, inr, arith, length-take, length-drop}
use Rattle.std.proofs.lemmas.Bool.{cases_eq}
use Rattle.lmem_raw.specs.Bytes.{part}
use Rattle.geos_terms.specs.Bytes.{word}
use Rattle.geos_terms.specs.Chunks.{cost, cost_of, resized}
use Rattle.geos_terms.specs.Block.{entry, entries, table_end, chunk_at, chunks, total_free}
use Rattle.geos_terms.specs.Heap.{Piece, Used, Tiles, HasChunk, AreUsed, IsOffset, IsHeader}
use Rattle.geos_terms.proofs.Costs.{cost-least, cost-four, cost-fours}
use Rattle.geos_terms.proofs.Pieces.{lies, tiles-le, tiles-join, has-split, has-left, has-right}
use Rattle.geos_terms.proofs.Found.{find}
use Rattle.geos_terms.proofs.Entries.{chunk-told, chunks-at}
use Rattle.geos_terms.proofs.Moves.{tiles-kept, tiles-shifted, chunk-shifted, chunk-stays}
use Rattle.geos_terms.proofs.Tables.{chunks-set, chunk-cases}
use Rattle.geos_terms.proofs.Headers.{head-word, same-header}
use Rattle.geos_terms.proofs.FreePieces.{used-any, used-left, used-right, used-both}
use Rattle.lmem_heap.specs.Packed.{IsPacked, EditsChunk, HasResized, chunks_end, chunk_end, chunk_length}
use Rattle.lmem_heap.proofs.Movers.{moved-in, moved-low, moved-high}

-- the chunk of an entry in a packed heap, with the chunks before it and after it
pub record Split (b : List ℕ) (i : ℕ) : Type 0 where
  pub pre : List Piece
  pub post : List Piece
  pub pre_used : AreUsed pre
  pub post_used : AreUsed post
  pub some : 0 < chunk_length b i
  pub size : word b (entry b i - 2) ≡ chunk_length b i + 2
  pub low : table_end b + 2 ≤ entry b i
  pub high : chunk_end b i ≤ chunks_end b
  pub room : chunks_end b + total_free b ≡ length b
  pub before : Tiles b (table_end b) 0 pre (entry b i - 2) 0
  pub behind : Tiles b (chunk_end b i) 0 post (chunks_end b) 0
  pub has : (j : ℕ) → j < entries b → IsOffset (entry b j) → HasChunk j pre ⊎ ((j ≡ i) ⊎ HasChunk j post)

pub split : (b : List ℕ) (i : ℕ) → IsPacked b → i < entries b → IsOffset (entry b i) → Split b i
split b i p h t =
    let e = entry b i in
    let at : p.at ≡ chunks_end b = omega arith in
    let r = find b (table_end b) 0 p.pre p.at 0 i p.tiles (p.all i h t) in
    let n : r.n ≡ chunk_length b i = omega (arith, r.size) in
    let used : AreUsed (r.pre ++ (Used i r.n ∷ r.post)) = subst (λ (ps : List Piece). AreUsed ps) r.is p.used in
    let pre_used = used-left r.pre (Used i r.n ∷ r.post) used in
    let post_used : AreUsed r.post = used-right r.pre (Used i r.n ∷ r.post) used in
    let le = tiles-le b (e - 2 + cost r.n) r.g r.post p.at 0 r.behind in
    let end : e - 2 + cost r.n ≡ chunk_end b i = ap (λ x. e - 2 + cost x) n in
    record {
      pre = r.pre;
      post = r.post;
      pre_used = pre_used;
      post_used = post_used;
      some = omega arith;
      size = omega (arith, r.size);
      low = r.low;
      high = omega arith;
      room = omega arith;
      before = used-any b (table_end b) 0 0 r.pre (e - 2) r.g pre_used r.before;
      behind = subst (λ (x : ℕ). Tiles b (chunk_end b i) 0 r.post x 0) at
          (subst (λ (x : ℕ). Tiles b x 0 r.post p.at 0) end (used-any b (e - 2 + cost r.n) r.g 0 r.post p.at 0 post_used r.behind));
      has = (λ j l u. has-split j r.pre (Used i r.n ∷ r.post) (subst (λ (ps : List Piece). HasChunk j ps) r.is (p.all j l u)));
    }

-- what an edit leaves of the other chunks
pub record Edited (b c : List ℕ) (i to : ℕ) (s : Split b i) : Type 0 where
  pub header : IsHeader c
  pub count : entries c ≡ entries b
  pub before : Tiles c (table_end c) 0 s.pre (entry b i - 2) 0
  pub behind : Tiles c to 0 s.post (to + (chunks_end b - chunk_end b i)) 0
  pub has : (j : ℕ) → j < entries b → j ≢ i → IsOffset (entry c j) → HasChunk j s.pre ⊎ HasChunk j s.post
  pub others : (j : ℕ) → j < entries b → j ≢ i → chunk_at c (entry c j) ≡ chunk_at b (entry b j)

pub edited : (b c : List ℕ) (i to : ℕ) → IsPacked b → i < entries b → IsOffset (entry b i) → (s : Split b i)
    → table_end b ≤ to → to + (chunks_end b - chunk_end b i) ≤ length b → EditsChunk b c i to → Edited b c i to s
edited b c i to p h t s low' fits k =
    let e = entry b i in
    let end = chunk_end b i in
    let at = chunks_end b in
    let wide = cost-least (chunk_length b i) s.some in
    let n : entries c ≡ entries b = head-word b c 12 10 k.head (omega arith) in
    let start : table_end b ≡ table_end c = ap (λ x. 16 + 2 * x) (sym n) in
    let apart : (j : ℕ) → (entry b j ≡ e → ⊥) → j ≢ i = (λ j ne is. ne (ap (λ x. entry b x) is)) in
    let low_entry : (j : ℕ) → j < entries b → j ≢ i → entry b j ≤ end → entry c j ≡ entry b j =
    (λ j l ne le. k.others j l ne ∙ moved-low end at to (entry b j) le) in
    let high_entry : (j : ℕ) → j < entries b → j ≢ i → at ≤ entry b j → entry c j ≡ entry b j =
    (λ j l ne le. k.others j l ne ∙ moved-high end at to (entry b j) le) in
    let moved_entry : (j : ℕ) → j < entries b → j ≢ i → end < entry b j → entry b j < at → entry c j + end ≡ entry b j + to =
    (λ j l ne a z. let q = k.others j l ne ∙ moved-in end at to (entry b j) a z in omega (arith, q)) in
    let pre : Tiles c (table_end b) 0 s.pre (e - 2) 0 = tiles-kept b c (table_end b) 0 s.pre (e - 2) 0 s.before k.before (omega (arith, n))
    (λ j l a z. low_entry j l (apart j (λ is. absurd (omega arith))) (omega arith)) in
    record {
      header = same-header b c p.header k.long k.head;
      count = n;
      before = subst (λ (x : ℕ). Tiles c x 0 s.pre (e - 2) 0) start pre;
      behind = tiles-shifted b c end to end 0 s.post at 0 to 0 (to + (at - end)) s.post_used s.behind (omega arith)
          (omega arith) k.moved (omega (arith, n))
          (λ j l a z. moved_entry j l (apart j (λ is. absurd (omega arith))) (omega arith) z);
      has = (λ j l ne told. let told_b : IsOffset (entry b j) =
          ((λ z. told.0 (low_entry j l ne (omega (arith, z)) ∙ z)), (λ z. told.1 (high_entry j l ne (omega (arith, z)) ∙ z))) in
          elim (s.has j l told_b) [ inl x ↦ inl x | inr x ↦ elim x [ inl is ↦ absurd (ne is) | inr y ↦ inr y ] ]);
      others = (λ j l ne. chunk-cases b c (entry b j) (entry c j) (λ z. low_entry j l ne (omega (arith, z)) ∙ z)
          (λ z. high_entry j l ne (omega (arith, z)) ∙ z) (λ told.
          elim (s.has j l told) [
            | inl x ↦ (let y = lies b (table_end b) 0 s.pre (e - 2) 0 j s.before x in let wide_j = cost-four y.n y.some in
                let d = low_entry j l ne (omega arith) in
                chunk-stays b c (table_end b) (e - 2) (entry b j) (entry c j) y k.before d (omega arith) (omega arith) told)
            | inr (inl is) ↦ absurd (ne is)
            | inr (inr y') ↦ (let y = lies b end 0 s.post at 0 j s.behind y' in let wide_j = cost-four y.n y.some in
                let d = moved_entry j l ne (omega arith) (omega arith) in
                chunk-shifted b c end to end at (to + (at - end)) (entry b j) (entry c j) y k.moved d (omega arith)
                (omega arith) (omega arith) (omega (arith, k.long)) told ((λ z. absurd (omega (arith, z))), (λ z. absurd (omega (arith, z)))))
          ]));
    }

pub resized-packed : (b c : List ℕ) (i n : ℕ) → IsPacked b → i < entries b → IsOffset (entry b i) → 0 < n
    → cost n ≤ total_free b + cost (chunk_length b i) → EditsChunk b c i (entry b i - 2 + cost n) → HasResized b c i n → IsPacked c
resized-packed b c i n p h t some_n fits k here =
    let s = split b i p h t in
    let wide = cost-least (chunk_length b i) s.some in
    let fours = cost-fours (chunk_length b i) in
    let fours' = cost-fours n in
    let to = entry b i - 2 + cost n in
    let d = edited b c i to p h t s (omega arith) (omega arith) k in
    record {
      header = d.header;
      pre = s.pre ++ (Used i n ∷ s.post);
      at = to + (chunks_end b - chunk_end b i);
      used = used-both s.pre (Used i n ∷ s.post) s.pre_used s.post_used;
      tiles = tiles-join c (table_end c) 0 s.pre (Used i n ∷ s.post) (entry b i - 2) 0 (to + (chunks_end b - chunk_end b i))
          0 d.before (some_n, omega (arith, d.count), here.place ∙ omega arith, here.size, d.behind);
      room = k.total;
      fours = omega arith;
      all = (λ j l told. elim (cases_eq j i) [
        | inl is ↦ has-right j s.pre (Used i n ∷ s.post) (inl is)
        | inr ne ↦ elim (d.has j (omega (arith, d.count)) ne told)
            [ inl x ↦ has-left j s.pre (Used i n ∷ s.post) x | inr x ↦ has-right j s.pre (Used i n ∷ s.post) (inr x) ]
      ]);
      ends = k.ends;
    }

pub resized-chunks : (b c : List ℕ) (i n : ℕ) → IsPacked b → i < entries b → IsOffset (entry b i) → 0 < n
    → cost n ≤ total_free b + cost (chunk_length b i) → EditsChunk b c i (entry b i - 2 + cost n) → HasResized b c i n →
    chunks c ≡ set (chunks b) i (Some (resized (part b (entry b i) (chunk_length b i)) n))
resized-chunks b c i n p h t some_n fits k here =
    let s = split b i p h t in
    let wide = cost-least (chunk_length b i) s.some in
    let to = entry b i - 2 + cost n in
    let d = edited b c i to p h t s (omega arith) (omega arith) k in
    let told : IsOffset (entry c i) = ((λ z. t.0 (sym here.place ∙ z)), (λ z. t.1 (sym here.place ∙ z))) in
    let size : word c (entry c i - 2) - 2 ≡ n = ap (λ x. word c (x - 2) - 2) here.place ∙ ap (λ x. x - 2) here.size ∙ omega arith in
    chunks-set b c i (Some (resized (part b (entry b i) (chunk_length b i)) n)) d.count h
    (chunk-told c (entry c i) told ∙ ap (λ x. Some (part c (entry c i) x)) size ∙ ap (λ x. Some (part c x n)) here.place
    ∙ ap (λ x. Some x) here.bytes) d.others

-- the bytes of an entry's chunk, and what they take
pub chunk-bytes : (b : List ℕ) (i : ℕ) → i < entries b → IsOffset (entry b i)
    → get_or (chunks b) i None ≡ Some (part b (entry b i) (chunk_length b i))
chunk-bytes b i h t = chunks-at b i h ∙ chunk-told b (entry b i) t

pub chunk-cost : (b : List ℕ) (i : ℕ) → IsPacked b → i < entries b → IsOffset (entry b i)
    → cost_of (get_or (chunks b) i None) ≡ cost (chunk_length b i)
chunk-cost b i p h t =
    let s = split b i p h t in
    let wide = cost-least (chunk_length b i) s.some in
    ap cost_of (chunk-bytes b i h t) ∙ ap cost (omega (arith, length-take (chunk_length b i) (drop (entry b i) b), length-drop (entry b i) b))
