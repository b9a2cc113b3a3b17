-- The chunks and the free bytes make up the block.
use Rattle.std.proofs.Common.{◌≡◌, ◌≢◌, ℕ, zero, suc, ◌+◌, ◌-◌, ◌<◌, ◌≤◌, ◌⊎◌, ◌==◌, if◌then◌else◌, List, [], ◌∷◌, length, map, sum_by, drop, refl, ap, sym, ◌∙◌, inl, inr, arith, length-take, length-drop}
use Rattle.std.specs.List.{range_with_len}
use Rattle.std.proofs.lemmas.Bool.{cases_eq}
use Rattle.std.proofs.lemmas.Bool.Decides.{nat_tests}
use Rattle.std.proofs.lemmas.List.FromFn.{sum_by-map-range_with_len_more, length-map-range_with_len}
use Rattle.geos_terms.proofs.Costs.{cost-least}
use Rattle.geos_terms.proofs.Entries.{chunk-told, chunk-none, chunk-nothing}
use Rattle.geos_terms.proofs.Pieces.{lies, tiles-le}
use Rattle.geos_terms.specs.Block.{entry, entries, table_end, chunk_at, chunks}
use Rattle.geos_terms.specs.Bytes.{word}
use Rattle.geos_terms.specs.Chunks.{cost, cost_of}
use Rattle.geos_terms.specs.Heap.{Piece, Used, Free, Tiles, HasChunk, free_bytes, IsOffset, IsHeap}
use Rattle.lmem_raw.specs.Bytes.{part}

-- the sum of a function over the numbers below n
tot : (ℕ → ℕ) → ℕ → ℕ
tot g zero = 0
tot g (suc n) = tot g n + g n

sum-tot : {A : Type 0} (w : A → ℕ) (f : ℕ → A) (n : ℕ) → sum_by w (map f (range_with_len 0 n)) ≡ tot (λ i. w (f i)) n
unfolding tot
sum-tot w f zero = refl
sum-tot w f (suc n) = let e : suc n ≡ n + 1 = omega arith in ap (λ m. sum_by w (map f (range_with_len 0 m))) e
    ∙ (sum_by-map-range_with_len_more w f 0 n n (omega arith) ∙ ap (λ x. x + w (f n)) (sum-tot w f n))

tot-ext : (g h : ℕ → ℕ) (n : ℕ) → ((k : ℕ) → k < n → g k ≡ h k) → tot g n ≡ tot h n
unfolding tot
tot-ext g h zero e = refl
tot-ext g h (suc n) e = let a = tot-ext g h n (λ k l. e k (omega arith)) in let b = e n (omega arith) in omega (arith, a, b)

abbrev without : ℕ → (ℕ → ℕ) → ℕ → ℕ
without i g j = if j == i then 0 else g j

without-same : (i j : ℕ) (g : ℕ → ℕ) → j ≡ i → without i g j ≡ 0
without-same i j g e = grind (arith, nat_tests)

without-other : (i j : ℕ) (g : ℕ → ℕ) → j ≢ i → without i g j ≡ g j
without-other i j g e = grind (arith, nat_tests)

tot-without : (g : ℕ → ℕ) (n i : ℕ) → i < n → tot g n ≡ tot (without i g) n + g i
unfolding tot
tot-without g zero i h = absurd (omega arith)
tot-without g (suc n) i h = elim (cases_eq n i) [
  | inl e ↦ (let a : tot g n ≡ tot (without i g) n = tot-ext g (without i g) n (λ k l. sym (without-other i k g (λ q. absurd (omega arith)))) in
      let z : without i g n ≡ 0 = without-same i n g e in
      let s : g n ≡ g i = ap g e in omega (arith, a, z, s))
  | inr ne ↦ (let a = tot-without g n i (omega arith) in let z : without i g n ≡ g n = without-other i n g ne in omega (arith, a, z))
]

abbrev used_in : List Piece → ℕ
used_in [] = 0
used_in (Used i n ∷ ps) = cost n + used_in ps
used_in (Free s ∷ ps) = used_in ps

-- each used piece is counted by g, and once
abbrev Gives : (ℕ → ℕ) → ℕ → List Piece → Type 0
Gives g n [] = Unit {0}
Gives g n (Used i m ∷ ps) = (i < n) × (g i ≡ cost m) × (HasChunk i ps → ⊥) × Gives g n ps
Gives g n (Free s ∷ ps) = Gives g n ps

gives-without : (g : ℕ → ℕ) (n j : ℕ) (ps : List Piece) → Gives g n ps → (HasChunk j ps → ⊥) → Gives (without j g) n ps
gives-without g n j [] h out = tt
gives-without g n j (Used i m ∷ ps) h out = (
  h.0,
  without-other j i g (λ e. out (inl (sym e)))
      ∙ h.1,
  h.2,
  gives-without g n j ps h.3 (λ x. out (inr x)),
)
gives-without g n j (Free s ∷ ps) h out = gives-without g n j ps h out

all-zero : (g : ℕ → ℕ) (m : ℕ) → ((j : ℕ) → j < m → g j ≡ 0) → tot g m ≡ 0
unfolding tot
all-zero g zero z = refl
all-zero g (suc m) z = let a = all-zero g m (λ j l. z j (omega arith)) in let b = z m (omega arith) in omega (arith, a, b)

picked : (g : ℕ → ℕ) (n : ℕ) (ps : List Piece) → Gives g n ps → ((j : ℕ) → j < n → (g j ≡ 0) ⊎ HasChunk j ps) → tot g n ≡ used_in ps
picked g n [] h cover = all-zero g n (λ j l. elim (cover j l) [ inl e ↦ e | inr x ↦ absurd x ])
picked g n (Free s ∷ ps) h cover = picked g n ps h cover
picked g n (Used i m ∷ ps) h cover =
    let rest = picked (without i g) n ps (gives-without g n i ps h.3 h.2) (λ j l. elim (cases_eq j i) [
      | inl e ↦ inl (without-same i j g e)
      | inr ne ↦ elim (cover j l) [
        | inl z ↦ inl (without-other i j g ne ∙ z)
        | inr x ↦ elim x [ inl e ↦ absurd (ne e) | inr y ↦ inr y ]
      ]
    ]) in
    omega (arith, tot-without g n i h.0, rest, h.1)

span : (b : List ℕ) (at f : ℕ) (ps : List Piece) (end next : ℕ) → Tiles b at f ps end next → at + (used_in ps + free_bytes ps) ≡ end
span b at f [] end next s = omega (arith, s.0)
span b at f (Used i n ∷ ps) end next s = omega (arith, span b (at + cost n) f ps end next s.4)
span b at f (Free m ∷ ps) end next s = omega (arith, span b (at + m) (word b (at + 2)) ps end next s.5)

abbrev cost_at : List ℕ → ℕ → ℕ
cost_at b i = cost_of (chunk_at b (entry b i))

cost-told : (b : List ℕ) (i at n : ℕ) → entry b i ≡ at + 2 → word b at ≡ n + 2 → at + 2 + n ≤ length b → length b ≤ 65520
    → 0 < n → cost_at b i ≡ cost n
cost-told b i at n is says fits most some =
    let tells : IsOffset (at + 2) = ((λ e. absurd (omega arith)), (λ e. absurd (omega arith))) in
    let back : at + 2 - 2 ≡ at = omega arith in
    let m : word b (at + 2 - 2) - 2 ≡ n = ap (λ x. word b x - 2) back ∙ omega (arith, says) in
    let long : length (part b (at + 2) n) ≡ n = omega (arith, length-take n (drop (at + 2) b), length-drop (at + 2) b) in
    ap (λ x. cost_of (chunk_at b x)) is ∙ ap cost_of (chunk-told b (at + 2) tells) ∙ ap (λ x. cost (length (part b (at + 2) x))) m ∙ ap cost long

gives-stands : (b : List ℕ) (at f : ℕ) (ps : List Piece) (end next : ℕ) → Tiles b at f ps end next → end ≤ length b
    → length b ≤ 65520 → Gives (cost_at b) (entries b) ps
gives-stands b at f [] end next s l most = tt
gives-stands b at f (Free m ∷ ps) end next s l most = gives-stands b (at + m) (word b (at + 2)) ps end next s.5 l most
gives-stands b at f (Used i n ∷ ps) end next s l most =
    let wide = cost-least n s.0 in
    let le = tiles-le b (at + cost n) f ps end next s.4 in (
      s.1,
      cost-told b i at n s.2 s.3 (omega arith) most s.0,
      (λ h. absurd (omega (arith, (lies b (at + cost n) f ps end next i s.4 h).from, s.2, wide, s.0))),
      gives-stands b (at + cost n) f ps end next s.4 l most,
    )

pub cost-zero : cost 0 ≡ 0
unfolding cost
cost-zero = refl

-- what chunks, table and free chunks take is the block
pub all-bytes : (b : List ℕ) → IsHeap b → sum_by cost_of (chunks b) + (table_end b + word b 14) ≡ length b
all-bytes b heap =
    let gives = gives-stands b (table_end b) (word b 12) heap.1.0 (length b) 0 heap.1.1.tiles (omega arith) heap.0.most in
    let sums = picked (cost_at b) (entries b) heap.1.0 gives (λ j l. elim (cases_eq (entry b j) 0) [
      | inl e ↦ inl (ap cost_of (chunk-none b (entry b j) e))
      | inr ne ↦ elim (cases_eq (entry b j) 65535) [
        | inl e ↦ inl (ap cost_of (chunk-nothing b (entry b j) e) ∙ cost-zero)
        | inr nf ↦ inr (heap.1.1.all j l (ne, nf))
      ]
    ]) in
    let is = sum-tot cost_of (λ i. chunk_at b (entry b i)) (entries b) in
    omega (arith, is, sums, span b (table_end b) (word b 12) heap.1.0 (length b) 0 heap.1.1.tiles, heap.1.1.total)

pub count-chunks : (b : List ℕ) → length (chunks b) ≡ entries b
count-chunks b = length-map-range_with_len (λ i. chunk_at b (entry b i)) 0 (entries b)
