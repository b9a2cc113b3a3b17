-- The index of the places where blocks begin, after a block has left or come.
use Rattle.std.proofs.Common.{◌≡◌, ◌≢◌, ℕ, zero, suc, ◌+◌, ◌/◌, ◌≤◌, ◌<◌, ◌⊎◌, List, [], ◌∷◌, length, Option, Some, None, slice_index_or, slice_set, refl, ap, sym, ◌∙◌, arith, inl, inr}
use Rattle.std.proofs.lemmas.List.{length-set, get_or-set_same, get_or-set_other}
use Rattle.std.proofs.lemmas.Bool.{cases_eq, cases_lt}
use Rattle.block_handles.specs.Store.{Store, size_of, place_of}
use Rattle.block_handles.specs.Layout.{Apart, IsLaidOut}
use Rattle.block_handles.specs.View.{IsIndexed}
use Rattle.block_handles.proofs.Layouts.{Differs, there_of_size}

some_same : (i j : ℕ) → Some i ≡ Some j → i ≡ j
some_same i j e = cc

none_some : (i : ℕ) → None ≡ Some i → ⊥
none_some i e = cc

-- numbers 64 apart lie in two granules
granules_apart : (a b : ℕ) → (a + 64 ≤ b) ⊎ (b + 64 ≤ a) → a / 64 ≢ b / 64
granules_apart a b (inl h) e = omega arith
granules_apart a b (inr h) e = omega arith

module _ (S S' : Store) (index : List (Option ℕ)) (i : ℕ) where
  -- a block has left
  pub indexed-freed : Differs S S' i 0 0 → 0 < size_of S i → IsIndexed S index → IsIndexed S' (slice_set index (place_of S i / 64) None)
  indexed-freed d some h = record {
    long = length-set index (place_of S i / 64) None ∙ h.long ∙ ap (λ n. n / 64 + 1) (sym d.len);
    found = λ j sj. elim (cases_eq j i) as (λ _. slice_index_or (slice_set index (place_of S i / 64) None) (place_of S' j / 64) None ≡ Some j) [
      | inl e ↦ absurd (omega (arith, sj, ap (size_of S') e, d.size))
      | inr ne ↦
          let was : slice_index_or index (place_of S j / 64) None ≡ Some j = h.found j (omega (arith, sj, d.sizes j ne)) in
          let off : place_of S j / 64 ≢ place_of S i / 64 =
          λ g. ne (some_same j i (sym was ∙ ap (λ k. slice_index_or index k None) g ∙ h.found i some)) in
          ap (λ p. slice_index_or (slice_set index (place_of S i / 64) None) (p / 64) None) (d.places j ne)
          ∙ get_or-set_other index (place_of S i / 64) (place_of S j / 64) None None off ∙ was
    ];
    real = λ g j is. elim (cases_eq g (place_of S i / 64)) as (λ _. (0 < size_of S' j) × (place_of S' j / 64 ≡ g)) [
      | inl e ↦ absurd (here g j e is)
      | inr ng ↦
          let r = h.real g j (sym (get_or-set_other index (place_of S i / 64) g None None ng) ∙ is) in
          let ne : j ≢ i = λ e. ng (sym r.1 ∙ ap (λ k. place_of S k / 64) e) in
          (omega (arith, r.0, d.sizes j ne), ap (λ p. p / 64) (d.places j ne) ∙ r.1)
    ];
  }
    where
      here : (g j : ℕ) → g ≡ place_of S i / 64 → slice_index_or (slice_set index (place_of S i / 64) None) g None ≡ Some j → ⊥
      here g j e is = elim (cases_lt (place_of S i / 64) (length index)) as (λ _. ⊥) [
        | inl lt ↦ none_some j (sym (ap (λ k. slice_index_or (slice_set index (place_of S i / 64) None) k None) e
            ∙ get_or-set_same index (place_of S i / 64) None None lt) ∙ is)
        | inr le ↦ none_some j (sym (past (slice_set index (place_of S i / 64) None) g (omega (arith, e, length-set index (place_of S i / 64) None)))
            ∙ is)
      ]
        where
          past : (l : List (Option ℕ)) (k : ℕ) → length l ≤ k → slice_index_or l k None ≡ None
          past [] k q = refl
          past (x ∷ l) zero q = absurd (omega arith)
          past (x ∷ l) (suc k) q = past l k (omega arith)

  -- a block has come
  pub indexed-put : (n p : ℕ) → Differs S S' i n p → size_of S i ≡ 0 → 64 ≤ n → IsLaidOut S' → IsIndexed S index
      → IsIndexed S' (slice_set index (p / 64) (Some i))
  indexed-put n p d none big laid h =
      let room : p / 64 < length index = omega (arith, h.long, d.len, laid.within i, d.size, d.place) in record {
        long = length-set index (p / 64) (Some i) ∙ h.long ∙ ap (λ n. n / 64 + 1) (sym d.len);
        found = λ j sj. elim (cases_eq j i) as (λ _. slice_index_or (slice_set index (p / 64) (Some i)) (place_of S' j / 64) None ≡ Some j) [
          | inl e ↦ ap (λ q. slice_index_or (slice_set index (p / 64) (Some i)) (q / 64) None) (ap (place_of S') e ∙ d.place)
              ∙ get_or-set_same index (p / 64) (Some i) None room ∙ ap (λ k. Some k) (sym e)
          | inr ne ↦
              let was : slice_index_or index (place_of S j / 64) None ≡ Some j = h.found j (omega (arith, sj, d.sizes j ne)) in
              ap (λ q. slice_index_or (slice_set index (p / 64) (Some i)) (q / 64) None) (d.places j ne)
              ∙ get_or-set_other index (p / 64) (place_of S j / 64) (Some i) None (off j ne sj) ∙ was
        ];
        real = λ g j is. elim (cases_eq g (p / 64)) as (λ _. (0 < size_of S' j) × (place_of S' j / 64 ≡ g)) [
          | inl e ↦
              let same : i ≡ j = some_same i j
              (sym (ap (λ k. slice_index_or (slice_set index (p / 64) (Some i)) k None) e ∙ get_or-set_same index (p / 64) (Some i) None room)
              ∙ is) in
              (omega (arith, ap (size_of S') same, d.size), ap (λ k. place_of S' k / 64) (sym same) ∙ ap (λ q. q / 64) d.place ∙ sym e)
          | inr ng ↦
              let r = h.real g j (sym (get_or-set_other index (p / 64) g (Some i) None ng) ∙ is) in
              let ne : j ≢ i = λ e. absurd (omega (arith, r.0, ap (size_of S) e, none)) in
              (omega (arith, r.0, d.sizes j ne), ap (λ q. q / 64) (d.places j ne) ∙ r.1)
        ];
      }
    where
      off : (j : ℕ) → j ≢ i → 0 < size_of S' j → place_of S j / 64 ≢ p / 64
      off j ne sj = granules_apart (place_of S j) p (far (laid.apart j i ne))
        where
          mine : 64 ≤ size_of S' j
          mine = (laid.sized j (there_of_size S' j sj)).0

          far : Apart S' j i → (place_of S j + 64 ≤ p) ⊎ (p + 64 ≤ place_of S j)
          far (inl q) = inl (omega (arith, q, mine, d.places j ne, d.place))
          far (inr q) = inr (omega (arith, q, big, d.places j ne, d.place, d.size))
