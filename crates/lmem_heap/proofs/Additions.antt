-- A packed heap that gets a larger table.
use Rattle.std.proofs.Common.{◌≡◌, ℕ, ◌+◌, ◌*◌, ◌%◌, ◌<◌, ◌≤◌, List, [], ◌∷◌, ◌++◌, Option, None, map, ap, sym, ◌∙◌, subst, inl, inr, arith, append_assoc}
use Rattle.std.specs.List.{range_with_len}
use Rattle.std.proofs.lemmas.Bool.{cases_eq, cases_lt}
use Rattle.std.proofs.lemmas.List.FromFn.{map-range_with_len_more}
use Rattle.geos_terms.specs.Bytes.{word}
use Rattle.geos_terms.specs.Block.{entry, entries, table_end, chunk_at, chunks, total_free}
use Rattle.geos_terms.specs.Heap.{Tiles, IsHeader}
use Rattle.geos_terms.proofs.Costs.{cost-four}
use Rattle.geos_terms.proofs.Pieces.{lies, tiles-le}
use Rattle.geos_terms.proofs.Entries.{chunk-none}
use Rattle.geos_terms.proofs.Moves.{tiles-shifted, chunk-shifted}
use Rattle.geos_terms.proofs.Tables.{chunk-cases, map-range}
use Rattle.geos_terms.proofs.Headers.{head-word}
use Rattle.lmem_heap.specs.Packed.{IsPacked, GrowsTable, chunks_end}
use Rattle.lmem_heap.proofs.Movers.{moved-in, moved-low, moved-high}

grown-header : (b c : List ℕ) → IsPacked b → 4 ≤ total_free b → GrowsTable b c → IsHeader c
grown-header b c p fits k =
    let h = p.header in
    let low = tiles-le b (table_end b) 0 p.pre p.at 0 p.tiles in
    let w : (j : ℕ) → j + 2 ≤ 10 → word c j ≡ word b j = (λ j l. head-word b c 10 j k.head l) in
    record {
      table = w 2 (omega arith) ∙ h.table;
      flags = w 4 (omega arith) ∙ h.flags;
      kind = w 6 (omega arith) ∙ h.kind;
      size = w 8 (omega arith) ∙ h.size ∙ sym k.long;
      least = omega (arith, k.long, h.least);
      most = omega (arith, k.long, h.most);
      sixteens = ap (λ x. x % 16) k.long ∙ h.sixteens;
      pairs = omega (arith, k.count, h.pairs);
      some = omega (arith, k.count, h.some);
      fits = omega (arith, k.count, k.long);
    }

grown-up : (b c : List ℕ) (i : ℕ) → GrowsTable b c → i < entries b → table_end b < entry b i → entry b i < chunks_end b
    → entry c i + table_end b ≡ entry b i + (table_end b + 4)
grown-up b c i k h low high = let e = k.places i h ∙ moved-in (table_end b) (chunks_end b) (table_end b + 4) (entry b i) low high in omega (arith, e)

pub grown-packed : (b c : List ℕ) → IsPacked b → 4 ≤ total_free b → GrowsTable b c → IsPacked c
grown-packed b c p fits k =
    let at = chunks_end b in
    let end = table_end b in
    let at_is : p.at ≡ at = omega arith in
    let tiles : Tiles b end 0 p.pre at 0 = subst (λ (x : ℕ). Tiles b end 0 p.pre x 0) at_is p.tiles in
    let low = tiles-le b end 0 p.pre at 0 tiles in
    let up : Tiles c (end + 4) 0 p.pre (at + 4) 0 = tiles-shifted b c end (end + 4) end 0 p.pre at 0 (end + 4) 0
    (at + 4) p.used tiles (omega arith) (omega arith) k.moved (omega (arith, k.count))
    (λ i l a z. grown-up b c i k l (omega arith) z) in
    let start : end + 4 ≡ table_end c = omega (arith, k.count) in
    record {
      header = grown-header b c p fits k;
      pre = p.pre;
      at = at + 4;
      used = p.used;
      tiles = subst (λ (x : ℕ). Tiles c x 0 p.pre (at + 4) 0) start up;
      room = k.total;
      fours = omega arith;
      all = (λ i l t. elim (cases_lt i (entries b)) [
        | inl h ↦ p.all i h (
          (λ e. t.0 (k.places i h ∙ moved-low end at (end + 4) (entry b i) (omega (arith, e)) ∙ e)),
          (λ e. t.1 (k.places i h ∙ moved-high end at (end + 4) (entry b i) (omega (arith, e)) ∙ e)),
        )
        | inr h ↦ elim (cases_eq i (entries b)) [
          | inl e ↦ absurd (t.0 (ap (λ x. entry c x) e ∙ k.fresh.0))
          | inr ne ↦ (let q : 16 + 2 * i ≡ end + 2 = omega (arith, k.count) in absurd (t.0 (ap (word c) q ∙ k.fresh.1)))
        ]
      ]);
      ends = k.ends;
    }

pub grown-chunks : (b c : List ℕ) → IsPacked b → 4 ≤ total_free b → GrowsTable b c → chunks c ≡ chunks b ++ (None ∷ (None ∷ []))
grown-chunks b c p fits k =
    let at = chunks_end b in
    let end = table_end b in
    let n = entries b in
    let at_is : p.at ≡ at = omega arith in
    let tiles : Tiles b end 0 p.pre at 0 = subst (λ (x : ℕ). Tiles b end 0 p.pre x 0) at_is p.tiles in
    let low = tiles-le b end 0 p.pre at 0 tiles in
    let F : ℕ → Option (List ℕ) = λ i. chunk_at c (entry c i) in
    let G : ℕ → Option (List ℕ) = λ i. chunk_at b (entry b i) in
    let each : (i : ℕ) → 0 ≤ i → i < 0 + n → F i ≡ G i = (λ i z l.
    let h : i < n = omega arith in
    chunk-cases b c (entry b i) (entry c i) (λ e. k.places i h ∙ moved-low end at (end + 4) (entry b i) (omega (arith, e)) ∙ e)
    (λ e. k.places i h ∙ moved-high end at (end + 4) (entry b i) (omega (arith, e)) ∙ e) (λ t.
    let r = lies b end 0 p.pre at 0 i tiles (p.all i h t) in
    let wide = cost-four r.n r.some in
    let d = grown-up b c i k h (omega arith) (omega arith) in
    chunk-shifted b c end (end + 4) end at (at + 4) (entry b i) (entry c i) r k.moved d (omega arith) (omega arith)
    (omega arith) (omega (arith, k.long)) t ((λ e. absurd (omega (arith, e))), (λ e. absurd (omega (arith, e)))))) in
    let e0 : F n ≡ None = chunk-none c (entry c n) k.fresh.0 in
    let q : 16 + 2 * (n + 1) ≡ end + 2 = omega arith in
    let e1 : F (n + 1) ≡ None = chunk-none c (entry c (n + 1)) (ap (word c) q ∙ k.fresh.1) in
    let count : entries c ≡ n + 1 + 1 = omega (arith, k.count) in
    let more : map F (range_with_len 0 (n + 1 + 1)) ≡ (map F (range_with_len 0 n) ++ (F n ∷ [])) ++ (F (n + 1) ∷ []) =
    map-range_with_len_more F 0 (n + 1) (n + 1) (omega arith) ∙ ap (λ xs. xs ++ (F (n + 1) ∷ [])) (map-range_with_len_more F 0 n n (omega arith)) in
    ap (λ x. map F (range_with_len 0 x)) count ∙ more ∙ append_assoc (map F (range_with_len 0 n)) (F n ∷ []) (F (n + 1) ∷ [])
    ∙ ap (λ x. map F (range_with_len 0 n) ++ (x ∷ (F (n + 1) ∷ []))) e0 ∙ ap (λ x. map F (range_with_len 0 n) ++ (None ∷ (x ∷ []))) e1
    ∙ ap (λ xs. xs ++ (None ∷ (None ∷ []))) (map-range F G 0 n each)
