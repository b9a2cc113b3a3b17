-- A write within a chunk.
use Rattle.std.proofs.Common.{◌≡◌, ℕ, ◌+◌, ◌-◌, ◌*◌, ◌<◌, ◌≤◌, List, [], ◌∷◌, ◌++◌, Some, length, set, get_or, drop, refl, ap, sym, ◌∙◌, subst, inl, inr, arith, length-take, length-drop}
use Rattle.std.specs.Option.{option_map}
use Rattle.std.proofs.lemmas.Bool.{cases_eq, cases_lt}
use Rattle.std.proofs.lemmas.List.{same_lists, get_or-take, get_or-drop, get_or_default}
use Rattle.lmem_raw.specs.Bytes.{part, with_part}
use Rattle.lmem_raw.proofs.Parts.{length-with_part}
use Rattle.geos_terms.specs.Bytes.{word, IsShifted}
use Rattle.geos_terms.specs.Chunks.{cost, entry_of}
use Rattle.geos_terms.specs.Block.{Place, entry, entries, table_end, chunk_at, chunks, place_at, place_of, bytes_at}
use Rattle.geos_terms.specs.Heap.{Piece, Used, Tiles, HasChunk, free_bytes, IsOffset, IsHeap}
use Rattle.geos_terms.specs.Writes.{ChangesChunk, WritesStayInTheirChunk}
use Rattle.geos_terms.proofs.Words.{word-part_other, get_or-with_part_before, get_or-with_part_behind, get_or-with_part_within, with_nothing, kept-before, kept-behind, word-shifted}
use Rattle.geos_terms.proofs.Costs.{cost-least}
use Rattle.geos_terms.proofs.Pieces.{lies, tiles-le, tiles-join, has-split}
use Rattle.geos_terms.proofs.Entries.{chunk-told, place-told, place-none, place-nothing}
use Rattle.geos_terms.proofs.Moves.{tiles-kept, chunk-stays}
use Rattle.geos_terms.proofs.Tables.{chunks-set, chunk-cases}
use Rattle.geos_terms.proofs.Headers.{same-header}
use Rattle.geos_terms.proofs.Found.{find}
use Rattle.geos_terms.proofs.Places.{place-entry, places-same}

part-with_part : (b : List ℕ) (e n k : ℕ) (ws : List ℕ) → e + n ≤ length b → k + length ws ≤ n
    → part (with_part b (e + k) ws) e n ≡ with_part (part b e n) k ws
part-with_part b e n k ws fits room =
    let lw = length-with_part b (e + k) ws in
    let lp = length-with_part (part b e n) k ws in
    let c = with_part b (e + k) ws in
    let n1 : length (part c e n) ≡ n = omega (arith, length-take n (drop e c), length-drop e c, lw) in
    let n2 : length (part b e n) ≡ n = omega (arith, length-take n (drop e b), length-drop e b) in
    same_lists (part c e n) (with_part (part b e n) k ws) (n1 ∙ sym n2 ∙ sym lp) (λ q d l.
    let small : q < n = omega arith in
    let left : get_or (part c e n) q 0 ≡ get_or c (e + q) 0 = get_or-take n (drop e c) q 0 small ∙ get_or-drop e c q 0 in
    let old : get_or (part b e n) q 0 ≡ get_or b (e + q) 0 = get_or-take n (drop e b) q 0 small ∙ get_or-drop e b q 0 in
    get_or_default (part c e n) q d 0 l ∙ left ∙ (elim (cases_lt q k) [
      | inl lt ↦ get_or-with_part_before b (e + k) ws (e + q) (omega arith) ∙ sym old ∙ sym (get_or-with_part_before (part b e n) k ws q lt)
      | inr ge ↦ elim (cases_lt q (k + length ws)) [
        | inl lt ↦ get_or-with_part_within b (e + k) ws (e + q) (q - k) (omega arith) (omega arith) (omega arith)
            ∙ sym (get_or-with_part_within (part b e n) k ws q (q - k) (omega arith) (omega arith) (omega (arith, n2)))
        | inr gt ↦ get_or-with_part_behind b (e + k) ws (e + q) (omega arith) ∙ sym old ∙ sym (get_or-with_part_behind (part b e n) k ws q gt)
      ]
    ])
    ∙ sym (get_or_default (with_part (part b e n) k ws) q d 0 (omega (arith, lp, n2))))

-- an entry's place stays where its entry and its size word do
place-kept : (b c : List ℕ) (e d : ℕ) → d ≡ e → (IsOffset e → word c (e - 2) ≡ word b (e - 2)) → place_at c d ≡ place_at b e
place-kept b c e d is size = ap (place_at c) is ∙ (elim (cases_eq e 0) [
  | inl z ↦ place-none c e z ∙ sym (place-none b e z)
  | inr nz ↦ elim (cases_eq e 65535) [
    | inl f ↦ place-nothing c e f ∙ sym (place-nothing b e f)
    | inr nf ↦ place-told c e (nz, nf) ∙ ap (λ x. Some (record { at = e; len = x - 2 })) (size (nz, nf)) ∙ sym (place-told b e (nz, nf))
  ]
])

-- what a write within the chunk of an entry leaves
record Written (b c : List ℕ) (i : ℕ) (bytes : List ℕ) : Type 0 where
  pub heap : IsHeap c
  pub chunks : chunks c ≡ set (chunks b) i (Some bytes)
  pub count : entries c ≡ entries b
  pub places : (j : ℕ) → j < entries b → place_at c (entry c j) ≡ place_at b (entry b j)
  pub handle : word c 0 ≡ word b 0

written : (b : List ℕ) (i n k : ℕ) (ws : List ℕ) → IsHeap b → i < entries b → IsOffset (entry b i) → word b (entry b i - 2) ≡ n + 2
    → k + length ws ≤ n →
    Written b (with_part b (entry b i + k) ws) i (with_part (part b (entry b i) n) k ws)
written b i n k ws heap h t size room =
    let e = entry b i in
    let c = with_part b (e + k) ws in
    let long = length-with_part b (e + k) ws in
    let r = find b (table_end b) (word b 12) heap.1.0 (length b) 0 i heap.1.1.tiles (heap.1.1.all i h t) in
    let same_n : r.n ≡ n = omega (arith, r.size, size) in
    let wide = cost-least r.n r.some in
    let le = tiles-le b (e - 2 + cost r.n) r.g r.post (length b) 0 r.behind in
    let early : (j : ℕ) → j + 2 ≤ e + k → word c j ≡ word b j = (λ j l. word-part_other b (e + k) ws j (inl l)) in
    let m : entries c ≡ entries b = early 10 (omega arith) in
    let each : (j : ℕ) → j < entries b → entry c j ≡ entry b j = (λ j l. early (16 + 2 * j) (omega arith)) in
    let front : IsShifted b c 0 0 (table_end b) (e - 2) = kept-before b (e + k) ws (table_end b) (e - 2) (omega arith) in
    let back : IsShifted b c 0 0 (e - 2 + cost r.n) (length b) = kept-behind b (e + k) ws (e - 2 + cost r.n) (length b) (omega arith) in
    let pre : Tiles c (table_end b) (word b 12) r.pre (e - 2) r.g = tiles-kept b c (table_end b) (word b 12) r.pre
    (e - 2) r.g r.before front (omega (arith, m)) (λ j l u v. each j l) in
    let post : Tiles c (e - 2 + cost r.n) r.g r.post (length b) 0 = tiles-kept b c (e - 2 + cost r.n) r.g r.post
    (length b) 0 r.behind back (omega (arith, m)) (λ j l u v. each j l) in
    let all : Tiles c (table_end b) (word b 12) (r.pre ++ (Used i r.n ∷ r.post)) (length b) 0 =
    tiles-join c (table_end b) (word b 12) r.pre (Used i r.n ∷ r.post) (e - 2) r.g (length b) 0 pre
    (r.some, omega (arith, m), each i h ∙ omega arith, early (e - 2) (omega arith) ∙ r.size, post) in
    let w12 : word c 12 ≡ word b 12 = early 12 (omega arith) in
    let told_c : IsOffset (entry c i) = (subst (λ (x : ℕ). IsOffset x) (sym (each i h)) t) in
    let size_c : word c (entry c i - 2) - 2 ≡ n = ap (λ x. word c (x - 2) - 2) (each i h)
    ∙ ap (λ x. x - 2) (early (e - 2) (omega arith) ∙ size) ∙ omega arith in
    let here : chunk_at c (entry c i) ≡ Some (with_part (part b e n) k ws) =
    chunk-told c (entry c i) told_c ∙ ap (λ x. Some (part c (entry c i) x)) size_c ∙ ap (λ x. Some (part c x n)) (each i h)
    ∙ ap (λ x. Some x) (part-with_part b e n k ws (omega arith) room) in
    let H : ℕ → List Piece → Type 0 = λ j ps. HasChunk j ps in
    let split : (j : ℕ) → j < entries b → IsOffset (entry b j) → HasChunk j (r.pre ++ (Used i r.n ∷ r.post)) =
    (λ j l u. subst (λ (ps : List Piece). HasChunk j ps) r.is (heap.1.1.all j l u)) in
    record {
      heap = (
        same-header b c heap.0 long (λ q l. get_or-with_part_before b (e + k) ws q (omega arith)),
        (
          r.pre ++ (Used i r.n ∷ r.post),
          record {
            tiles = subst (λ (x : ℕ). Tiles c (table_end c) (word c 12) (r.pre ++ (Used i r.n ∷ r.post)) x 0) (sym long)
                (subst (λ (x : ℕ). Tiles c (table_end c) x (r.pre ++ (Used i r.n ∷ r.post)) (length b) 0) (sym w12)
                (subst (λ (x : ℕ). Tiles c (16 + 2 * x) (word b 12) (r.pre ++ (Used i r.n ∷ r.post)) (length b) 0) (sym m) all));
            all = (λ j l u. let lb : j < entries b = omega (arith, m) in split j lb (subst (λ (x : ℕ). IsOffset x) (each j lb) u));
            total = early 14 (omega arith) ∙ heap.1.1.total ∙ ap free_bytes r.is;
          },
        ),
      );
      chunks = chunks-set b c i (Some (with_part (part b e n) k ws)) m h here (λ j l ne.
          let d : entry c j ≡ entry b j = each j l in
          chunk-cases b c (entry b j) (entry c j) (λ z. d ∙ z) (λ z. d ∙ z) (λ u.
          elim (has-split j r.pre (Used i r.n ∷ r.post) (split j l u)) [
            | inl x ↦ chunk-stays b c (table_end b) (e - 2) (entry b j) (entry c j)
                (lies b (table_end b) (word b 12) r.pre (e - 2) r.g j r.before x) front d (omega arith) (omega (arith, long)) u
            | inr (inl z) ↦ absurd (ne z)
            | inr (inr x) ↦ chunk-stays b c (e - 2 + cost r.n) (length b) (entry b j) (entry c j)
                (lies b (e - 2 + cost r.n) r.g r.post (length b) 0 j r.behind x) back d (omega arith) (omega (arith, long)) u
          ]));
      count = m;
      places = (λ j l. place-kept b c (entry b j) (entry c j) (each j l) (λ u. elim (has-split j r.pre (Used i r.n ∷ r.post) (split j l u)) [
        | inl x ↦ (let y = lies b (table_end b) (word b 12) r.pre (e - 2) r.g j r.before x in let wide_j = cost-least y.n y.some in
            early (entry b j - 2) (omega arith))
        | inr (inl z) ↦ (let same : entry b j ≡ e = ap (λ q. entry b q) z in early (entry b j - 2) (omega arith))
        | inr (inr x2) ↦ (let y = lies b (e - 2 + cost r.n) r.g r.post (length b) 0 j r.behind x2 in let wide_j = cost-least y.n y.some in
            word-shifted b c 0 0 (e - 2 + cost r.n) (length b) (entry b j - 2) (entry b j - 2) back (omega arith) (omega arith) (omega arith))
      ]));
      handle = early 0 (omega arith);
    }

-- where nothing is written
unwritten : (b : List ℕ) (c : ℕ) (p : Place) (at : ℕ) → IsHeap b → place_of b c ≡ Some p → ChangesChunk b (with_part b (p.at + at) []) c p at []
unwritten b c p at heap is =
    let q = place-entry b c p is in
    let index : entry_of c ≡ q.0 = omega (arith, q.1.0.is) in
    let here : chunk_at b (entry b q.0) ≡ Some (with_part (bytes_at b p) at []) = ap (option_map (bytes_at b)) q.1.1
    ∙ ap (λ x. Some x) (sym (with_nothing (bytes_at b p) at)) in
    subst (λ (x : List ℕ). ChangesChunk b x c p at []) (sym (with_nothing b (p.at + at))) (record {
      heap = heap;
      chunks = chunks-set b b q.0 (Some (with_part (bytes_at b p) at [])) refl q.1.0.known here (λ j l ne. refl)
          ∙ ap (λ x. set (chunks b) x (Some (with_part (bytes_at b p) at []))) (sym index);
      places = (λ d. refl);
      handle = refl;
    })

pub writes-stay : WritesStayInTheirChunk
writes-stay b c p at [] heap is room = unwritten b c p at heap is
writes-stay b c p at (w ∷ ws) heap is room =
    let q = place-entry b c p is in
    let e = entry b q.0 in
    let index : entry_of c ≡ q.0 = omega (arith, q.1.0.is) in
    elim (cases_eq e 0) [
      | inl z ↦ absurd (let none = sym (place-none b e z) ∙ q.1.1 in cc)
      | inr nz ↦ elim (cases_eq e 65535) [
        | inl f ↦ absurd (let some : Some (record { at = 0; len = 0 }) ≡ Some p = sym (place-nothing b e f) ∙ q.1.1 in
            let same : record { at = 0; len = 0 } ≡ p = cc in
            let none : 0 ≡ p.len = ap (λ (x : Place). x.len) same in omega (arith, none, room))
        | inr nf ↦ (let some : Some (record { at = e; len = word b (e - 2) - 2 }) ≡ Some p = sym (place-told b e (nz, nf)) ∙ q.1.1 in
            let same : record { at = e; len = word b (e - 2) - 2 } ≡ p = cc in
            let len : word b (e - 2) - 2 ≡ p.len = ap (λ (x : Place). x.len) same in
            let n = word b (e - 2) - 2 in
            let d = written b q.0 n at (w ∷ ws) heap q.1.0.known (nz, nf) (omega (arith, len, room)) (omega (arith, len, room)) in
            subst (λ (x : Place). ChangesChunk b (with_part b (x.at + at) (w ∷ ws)) c x at (w ∷ ws)) same (record {
              heap = d.heap;
              chunks = d.chunks ∙ ap (λ x. set (chunks b) x (Some (with_part (part b e n) at (w ∷ ws)))) (sym index);
              places = places-same b (with_part b (e + at) (w ∷ ws)) d.count d.places;
              handle = d.handle;
            }))
      ]
    ]
