-- The test that computes says which bytes are a heap.
use Rattle.std.proofs.Common.{◌≡◌, ◌≢◌, ℕ, zero, suc, ◌+◌, ◌-◌, ◌<◌, ◌≤◌, ◌⊎◌, Bool, true, false, ◌&&◌, ◌||◌, not, cond, List, [], ◌∷◌, length, Option, Some, None, refl, ap, sym, ◌∙◌, subst, inl, inr, arith}
use Rattle.std.proofs.lemmas.Bool.{cases_eq, eq-eqb, eqb-true, eqb-false, ne_eqb, false≢true}
use Rattle.std.proofs.Math.Dec.{eqb, ltb, leb}
use borrow.Author.Tests.{ltb-true}
use Rattle.std.proofs.lemmas.Bool.Decides.{nat_tests}
use Rattle.geos_terms.proofs.Costs.{cost-four}
use Rattle.geos_terms.proofs.Pieces.{lies, tiles-le}
use Rattle.geos_terms.specs.Block.{entry, entries, table_end, first_free, total_free}
use Rattle.geos_terms.specs.Bytes.{word}
use Rattle.geos_terms.specs.Chunks.{cost}
use Rattle.geos_terms.specs.Heap.{Piece, Used, Free, Tiles, HasChunk, free_bytes, IsOffset, IsHeader, IsHeap}
use Rattle.geos_terms.specs.HeapTest.{is_header, entry_with, piece_at, piece_size, pieces_from, are_tiles, has_chunk, have_chunks, is_heap}

-- parts of a test that holds
pub both : (a b : Bool) → (a && b) ≡ true → (a ≡ true) × (b ≡ true)
both true b h = (refl, h)
both false b h = absurd (false≢true h)

pub either : (a b : Bool) → (a || b) ≡ true → (a ≡ true) ⊎ (b ≡ true)
either true b h = inl refl
either false b h = inr h

pub and-true : (a b : Bool) → a ≡ true → b ≡ true → (a && b) ≡ true
and-true true b p q = q
and-true false b p q = absurd (false≢true p)

pub le-leb : (a b : ℕ) → a ≤ b → leb a b ≡ true
le-leb a b h = grind (arith, nat_tests)

pub lt-ltb : (a b : ℕ) → a < b → ltb a b ≡ true
lt-ltb a b h = grind (arith, nat_tests)

not-eqb : (a b : ℕ) → not (eqb a b) ≡ true → a ≢ b
not-eqb a b h e = grind (arith, nat_tests)

ne-not : (a b : ℕ) → a ≢ b → not (eqb a b) ≡ true
ne-not a b h = ap not (ne_eqb a b h)

pub header-sound : (b : List ℕ) → is_header b ≡ true → IsHeader b
header-sound b h = record {
  table = grind (arith, nat_tests);
  flags = grind (arith, nat_tests);
  kind = grind (arith, nat_tests);
  size = grind (arith, nat_tests);
  least = grind (arith, nat_tests);
  most = grind (arith, nat_tests);
  sixteens = grind (arith, nat_tests);
  pairs = grind (arith, nat_tests);
  some = grind (arith, nat_tests);
  fits = grind (arith, nat_tests);
}

pub header-complete : (b : List ℕ) → IsHeader b → is_header b ≡ true
header-complete b h =
    let t1 = h.table in
    let t2 = h.flags in
    let t3 = h.kind in
    let t4 = h.size in
    let t5 = h.least in
    let t6 = h.most in
    let t7 = h.sixteens in
    let t8 = h.pairs in
    let t9 = h.some in
    let t10 = h.fits in
    and-true _ _ (and-true _ _
    (and-true _ _ (and-true _ _ (and-true _ _ (and-true _ _ (and-true _ _ (eq-eqb _ _ t1) (eq-eqb _ _ t2)) (eq-eqb _ _ t3)) (eq-eqb _ _ t4))
    (and-true _ _ (and-true _ _ (le-leb _ _ t5) (le-leb _ _ t6)) (eq-eqb _ _ t7))) (eq-eqb _ _ t8)) (le-leb _ _ t9)) (le-leb _ _ t10)

-- the entry that is found holds the offset
entry-sound : (b : List ℕ) (e n i : ℕ) → entry_with b e n ≡ Some i → (i < n) × (entry b i ≡ e)
entry-sound b e zero i h = cc
entry-sound b e (suc n) i h = by (entry-sound b e n i) (eqb (entry b n) e) refl h
  where
    by : (entry_with b e n ≡ Some i → (i < n) × (entry b i ≡ e)) → (t : Bool) → eqb (entry b n) e ≡ t
        → cond t (Some n) (entry_with b e n) ≡ Some i → (i < suc n) × (entry b i ≡ e)
    by below true is h = let same : n ≡ i = cc in (omega arith, ap (entry b) (sym same) ∙ eqb-true _ _ is)
    by below false is h = let r = below h in (omega (arith, r.0), r.1)

-- where none is found no entry holds it
entry-none : (b : List ℕ) (e n : ℕ) → entry_with b e n ≡ None → (i : ℕ) → i < n → entry b i ≡ e → ⊥
entry-none b e zero h i l q = omega arith
entry-none b e (suc n) h i l q = by (λ g l'. entry-none b e n g i l' q) (eqb (entry b n) e) refl h
  where
    by : (entry_with b e n ≡ None → i < n → ⊥) → (t : Bool) → eqb (entry b n) e ≡ t → cond t (Some n) (entry_with b e n) ≡ None → ⊥
    by below true is h = cc
    by below false is h = elim (cases_eq i n) [
      | inl same ↦ eqb-false (entry b n) e is (ap (entry b) (sym same) ∙ q)
      | inr other ↦ below h (omega arith)
    ]

-- a test of tiles that holds
pub tiles-sound : (b : List ℕ) (at f : ℕ) (ps : List Piece) → are_tiles b at f ps ≡ true → Tiles b at f ps (length b) 0
tiles-sound b at f [] h = let h1 = both _ _ h in (eqb-true _ _ h1.0, eqb-true _ _ h1.1)
tiles-sound b at f (Used i n ∷ ps) h =
    let h1 = both _ _ h in
    let h2 = both _ _ h1.0 in
    let h3 = both _ _ h2.0 in
    let h4 = both _ _ h3.0 in
    (ltb-true _ _ h4.0, ltb-true _ _ h4.1, eqb-true _ _ h3.1, eqb-true _ _ h2.1, tiles-sound b (at + cost n) f ps h1.1)
tiles-sound b at f (Free s ∷ ps) h =
    let h1 = both _ _ h in
    let h2 = both _ _ h1.0 in
    let h3 = both _ _ h2.0 in
    let h4 = both _ _ h3.0 in
    let h5 = both _ _ h4.0 in
    (ltb-true _ _ h5.0, eqb-true _ _ h5.1, eqb-true _ _ h4.1, eqb-true _ _ h3.1, not-eqb _ _ h2.1, tiles-sound b (at + s) (word b (at + 2)) ps h1.1)

pub tiles-complete : (b : List ℕ) (at f : ℕ) (ps : List Piece) → Tiles b at f ps (length b) 0 → are_tiles b at f ps ≡ true
tiles-complete b at f [] s = and-true _ _ (eq-eqb _ _ s.0) (eq-eqb _ _ s.1)
tiles-complete b at f (Used i n ∷ ps) s =
    and-true _ _ (and-true _ _ (and-true _ _ (and-true _ _ (lt-ltb _ _ s.0) (lt-ltb _ _ s.1)) (eq-eqb _ _ s.2)) (eq-eqb _ _ s.3))
    (tiles-complete b (at + cost n) f ps s.4)
tiles-complete b at f (Free m ∷ ps) s =
    and-true _ _ (and-true _ _ (and-true _ _ (and-true _ _ (and-true _ _ (lt-ltb _ _ s.0) (eq-eqb _ _ s.1)) (eq-eqb _ _ s.2)) (eq-eqb _ _ s.3))
    (ne-not _ _ s.4))
    (tiles-complete b (at + m) (word b (at + 2)) ps s.5)

chunk-sound : (i : ℕ) (ps : List Piece) → has_chunk i ps ≡ true → HasChunk i ps
chunk-sound i [] h = absurd (false≢true h)
chunk-sound i (Used j n ∷ ps) h = elim (either _ _ h) [ inl e ↦ inl (eqb-true _ _ e) | inr e ↦ inr (chunk-sound i ps e) ]
chunk-sound i (Free s ∷ ps) h = chunk-sound i ps h

or-left : (a b : Bool) → a ≡ true → (a || b) ≡ true
or-left a b h = ap (λ x. x || b) h

or-right : (a b : Bool) → b ≡ true → (a || b) ≡ true
or-right true b h = refl
or-right false b h = h

chunk-complete : (i : ℕ) (ps : List Piece) → HasChunk i ps → has_chunk i ps ≡ true
chunk-complete i [] h = absurd h
chunk-complete i (Used j n ∷ ps) (inl e) = or-left _ _ (eq-eqb i j e)
chunk-complete i (Used j n ∷ ps) (inr e) = or-right _ _ (chunk-complete i ps e)
chunk-complete i (Free s ∷ ps) h = chunk-complete i ps h

chunks-sound : (n : ℕ) (b : List ℕ) (ps : List Piece) → have_chunks n b ps ≡ true → (i : ℕ) → i < n → IsOffset (entry b i) → HasChunk i ps
chunks-sound zero b ps h i l t = absurd (omega arith)
chunks-sound (suc n) b ps h i l t =
    let h1 = both _ _ h in
    elim (cases_eq i n) [
      | inl same ↦ (let T : ℕ → Type 0 = λ x. IsOffset (entry b x) in let H : ℕ → Type 0 = λ x. HasChunk x ps in
          subst H (sym same) (here (subst T same t) h1.0))
      | inr other ↦ chunks-sound n b ps h1.1 i (omega arith) t
    ]
  where
    here : IsOffset (entry b n) → ((eqb (entry b n) 0 || eqb (entry b n) 65535) || has_chunk n ps) ≡ true → HasChunk n ps
    here t h = elim (either _ _ h) [
      | inl e ↦ elim (either _ _ e) [ inl z ↦ absurd (t.0 (eqb-true _ _ z)) | inr z ↦ absurd (t.1 (eqb-true _ _ z)) ]
      | inr e ↦ chunk-sound n ps e
    ]

chunks-complete : (n : ℕ) (b : List ℕ) (ps : List Piece) → ((i : ℕ) → i < n → IsOffset (entry b i) → HasChunk i ps) → have_chunks n b ps ≡ true
chunks-complete zero b ps all = refl
chunks-complete (suc n) b ps all = and-true _ _ here (chunks-complete n b ps (λ i l t. all i (omega arith) t))
  where
    here : ((eqb (entry b n) 0 || eqb (entry b n) 65535) || has_chunk n ps) ≡ true
    here = elim (cases_eq (entry b n) 0) [
      | inl z ↦ or-left _ _ (or-left _ _ (eq-eqb _ _ z))
      | inr z ↦ elim (cases_eq (entry b n) 65535) [
        | inl w ↦ or-left _ _ (or-right _ _ (eq-eqb _ _ w))
        | inr w ↦ or-right _ _ (chunk-complete n ps (all n (omega arith) (z, w)))
      ]
    ]

-- a step of the walk, where it is not at the end
step : (k : ℕ) (b : List ℕ) (at : ℕ) (o : Option ℕ) → (at ≡ length b → ⊥) → entry_with b (at + 2) (entries b) ≡ o
    → pieces_from (suc k) b at ≡ piece_at b at o ∷ pieces_from k b (at + piece_size (piece_at b at o))
step k b at o inside found =
    let p = piece_at b at (entry_with b (at + 2) (entries b)) in
    let past : cond (eqb at (length b)) [] (p ∷ pieces_from k b (at + piece_size p)) ≡ p ∷ pieces_from k b (at + piece_size p) =
    ap (λ t. cond t [] (p ∷ pieces_from k b (at + piece_size p))) (ne_eqb _ _ inside) in
    past ∙ ap (λ x. piece_at b at x ∷ pieces_from k b (at + piece_size (piece_at b at x))) found

-- what tiles a block is what the walk over it finds
walk : (k : ℕ) (b : List ℕ) (at f : ℕ) (ps : List Piece) → length b ≤ 65520 → length b ≤ at + k → Tiles b at f ps (length b) 0 →
    ((i : ℕ) → i < entries b → IsOffset (entry b i) → at ≤ entry b i → HasChunk i ps) → pieces_from k b at ≡ ps
walk zero b at f [] small far s all = refl
walk (suc k) b at f [] small far s all =
    let p = piece_at b at (entry_with b (at + 2) (entries b)) in
    ap (λ t. cond t [] (p ∷ pieces_from k b (at + piece_size p))) (eq-eqb _ _ s.0)
walk zero b at f (Used i n ∷ ps) small far s all = let le = tiles-le b (at + cost n) f ps (length b) 0 s.4 in
    let wide = cost-four n s.0 in absurd (omega (arith, le, wide))
walk zero b at f (Free m ∷ ps) small far s all = let le = tiles-le b (at + m) (word b (at + 2)) ps (length b) 0 s.5 in absurd (omega (arith, le, s.0))
walk (suc k) b at f (Used i n ∷ ps) small far s all =
    let le = tiles-le b (at + cost n) f ps (length b) 0 s.4 in
    let wide = cost-four n s.0 in
    let inside : at ≡ length b → ⊥ = (λ e. omega (arith, le, wide)) in
    let size : word b at - 2 ≡ n = omega (arith, s.3) in
    let rest = walk k b (at + cost n) f ps small (omega (arith, wide)) s.4 (λ j l t low. elim (all j l t (omega arith)) [
      | inl e ↦ (let d : entry b j ≡ at + 2 = ap (λ x. entry b x) e ∙ s.2 in absurd (omega (arith, d, wide)))
      | inr g ↦ g
    ]) in
    let found : entry_with b (at + 2) (entries b) ≡ Some i = by (entry_with b (at + 2) (entries b)) refl in
    step k b at (Some i) inside found
    ∙ ap (λ m. Used i m ∷ pieces_from k b (at + cost m)) size ∙ ap (λ xs. Used i n ∷ xs) rest
  where
    by : (o : Option ℕ) → entry_with b (at + 2) (entries b) ≡ o → o ≡ Some i
    by None e = absurd (entry-none b (at + 2) (entries b) e i s.1 s.2)
    by (Some j) e =
        let r = entry-sound b (at + 2) (entries b) j e in
        let le = tiles-le b (at + cost n) f ps (length b) 0 s.4 in
        let wide = cost-four n s.0 in
        elim (all j r.0 ((λ z. omega (arith, r.1)), (λ z. omega (arith, r.1, le, wide))) (omega (arith, r.1))) [
          | inl same ↦ ap Some same
          | inr more ↦ (let l = lies b (at + cost n) f ps (length b) 0 j s.4 more in absurd (omega (arith, l.from, r.1, wide)))
        ]
walk (suc k) b at f (Free m ∷ ps) small far s all =
    let le = tiles-le b (at + m) (word b (at + 2)) ps (length b) 0 s.5 in
    let inside : at ≡ length b → ⊥ = (λ e. omega (arith, le, s.0)) in
    let rest = walk k b (at + m) (word b (at + 2)) ps small (omega (arith, s.0)) s.5 (λ j l t low. all j l t (omega arith)) in
    let found : entry_with b (at + 2) (entries b) ≡ None = by (entry_with b (at + 2) (entries b)) refl in
    step k b at None inside found
    ∙ ap (λ n. Free n ∷ pieces_from k b (at + n)) s.3 ∙ ap (λ xs. Free m ∷ xs) rest
  where
    by : (o : Option ℕ) → entry_with b (at + 2) (entries b) ≡ o → o ≡ None
    by None e = refl
    by (Some j) e =
        let r = entry-sound b (at + 2) (entries b) j e in
        let le = tiles-le b (at + m) (word b (at + 2)) ps (length b) 0 s.5 in
        let l = lies b (at + m) (word b (at + 2)) ps (length b) 0 j s.5
        (all j r.0 ((λ z. omega (arith, r.1)), (λ z. omega (arith, r.1, le, s.0))) (omega (arith, r.1))) in
        absurd (omega (arith, l.from, r.1, s.0))

-- the test holds exactly of the bytes of a heap
pub heap-sound : (b : List ℕ) → is_heap b ≡ true → IsHeap b
unfolding is_heap
heap-sound b h =
    let ps = pieces_from (length b) b (table_end b) in
    let h1 = both _ _ h in
    let h2 = both _ _ h1.0 in
    let h3 = both _ _ h2.0 in (
      header-sound b h3.0,
      (
        ps,
        record {
          tiles = tiles-sound b (table_end b) (first_free b) ps h3.1;
          all =
              chunks-sound (entries b) b ps h2.1;
          total = eqb-true _ _ h1.1;
        },
      ),
    )

pub heap-complete : (b : List ℕ) → IsHeap b → is_heap b ≡ true
unfolding is_heap
heap-complete b (header, (ps, t)) =
    let same : pieces_from (length b) b (table_end b) ≡ ps = walk (length b) b (table_end b) (first_free b) ps header.most
    (omega arith) t.tiles (λ i l u low. t.all i l u) in
    let P : List Piece → Type 0 = λ qs. (is_header b && are_tiles b (table_end b) (first_free b) qs && have_chunks
    (entries b) b qs && (eqb (total_free b) (free_bytes qs))) ≡ true in
    subst P (sym same) (and-true _ _
    (and-true _ _ (and-true _ _ (header-complete b header) (tiles-complete b (table_end b) (first_free b) ps t.tiles))
    (chunks-complete (entries b) b ps t.all)) (eq-eqb _ _ t.total))
