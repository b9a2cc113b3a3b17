-- Going from one block to the next in the order in which they lie.
use Rattle.std.proofs.Common.{◌≡◌, ◌≢◌, ℕ, ◌+◌, ◌≤◌, ◌<◌, ◌⊎◌, refl, ap, sym, ◌∙◌, arith, inl, inr}
use Rattle.std.proofs.lemmas.Bool.{cases_eq, cases_lt}
use Rattle.block_handles.specs.Store.{Store, size_of, place_of, end_of, slot_count}
use Rattle.block_handles.specs.Layout.{Apart, IsLaidOut}
use Rattle.block_handles.specs.Packing.{IsEdge}
use Rattle.block_handles.specs.Search.{IsFirst}
use Rattle.block_handles.specs.Stretch.{total, only_in, sum_in}
use Rattle.block_handles.proofs.Layouts.{there_of_size, there_small}
use Rattle.block_handles.proofs.Sums.{total-same, total-none, total-one, in_range, off_range, no_weight}

module _ (S : Store) (from until : ℕ) (f : ℕ → ℕ) where
  -- what lies in a range has no weight
  pub sum_zero : ((j : ℕ) → from ≤ place_of S j → end_of S j ≤ until → f j ≡ 0) → sum_in S from until f ≡ 0
  sum_zero h = total-none (slot_count S) (only_in S from until f) each
    where
      each : (j : ℕ) → only_in S from until f j ≡ 0
      each j = elim (cases_lt (place_of S j) from) as (λ _. only_in S from until f j ≡ 0) [
        | inl low ↦ off_range S from until f j (inl low)
        | inr ge ↦ elim (cases_lt until (end_of S j)) as (λ _. only_in S from until f j ≡ 0) [
          | inl high ↦ off_range S from until f j (inr high)
          | inr le ↦ no_weight S from until f j (h j ge le)
        ]
      ]

  -- what does not lie in a range has no weight
  pub sum_all : ((j : ℕ) → ((from ≤ place_of S j) × (end_of S j ≤ until)) ⊎ (f j ≡ 0)) → sum_in S from until f ≡ total (slot_count S) f
  sum_all h = total-same (slot_count S) (only_in S from until f) f (λ j. each j (h j))
    where
      each : (j : ℕ) → ((from ≤ place_of S j) × (end_of S j ≤ until)) ⊎ (f j ≡ 0) → only_in S from until f j ≡ f j
      each j (inl q) = in_range S from until f j q.0 q.1
      each j (inr z) = no_weight S from until f j z ∙ sym z

-- two ranges of one block each count the same of it
pub only_same : (S S' : Store) (a b c d : ℕ) (f g : ℕ → ℕ) (j : ℕ) → f j ≡ g j
    → ((a ≤ place_of S j) × (end_of S j ≤ b) → (c ≤ place_of S' j) × (end_of S' j ≤ d))
    → ((c ≤ place_of S' j) × (end_of S' j ≤ d) → (a ≤ place_of S j) × (end_of S j ≤ b))
    → only_in S a b f j ≡ only_in S' c d g j
only_same S S' a b c d f g j e to back = elim (cases_lt (place_of S j) a) as (λ _. only_in S a b f j ≡ only_in S' c d g j) [
  | inl low ↦ off_range S a b f j (inl low) ∙ sym (other (λ q. absurd (omega (arith, (back q).0, low))))
  | inr ge ↦ elim (cases_lt b (end_of S j)) as (λ _. only_in S a b f j ≡ only_in S' c d g j) [
    | inl high ↦ off_range S a b f j (inr high) ∙ sym (other (λ q. absurd (omega (arith, (back q).1, high))))
    | inr le ↦ let q : (c ≤ place_of S' j) × (end_of S' j ≤ d) = to (ge, le) in in_range S a b f j ge le ∙ e ∙ sym (in_range S' c d g j q.0 q.1)
  ]
]
  where
    other : ((c ≤ place_of S' j) × (end_of S' j ≤ d) → ⊥) → only_in S' c d g j ≡ 0
    other never = elim (cases_lt (place_of S' j) c) as (λ _. only_in S' c d g j ≡ 0) [
      | inl low ↦ off_range S' c d g j (inl low)
      | inr ge ↦ elim (cases_lt d (end_of S' j)) as (λ _. only_in S' c d g j ≡ 0) [
        | inl high ↦ off_range S' c d g j (inr high)
        | inr le ↦ absurd (never (ge, le))
      ]
    ]

module _ (S : Store) (laid : IsLaidOut S) (scan until x : ℕ) (first : IsFirst S scan until x) (edge : IsEdge S scan) where
  -- every other block ends before this block, or begins after it
  pub passed : (j : ℕ) → j ≢ x → (end_of S j ≤ scan) ⊎ (end_of S x ≤ place_of S j)
  passed j ne = by_edge (edge j)
    where
      by_apart : 0 < size_of S j → scan ≤ place_of S j → Apart S j x → (end_of S j ≤ scan) ⊎ (end_of S x ≤ place_of S j)
      by_apart some le (inl q) = absurd (omega (arith, q, some, first.first j some le))
      by_apart some le (inr q) = inr q

      by_edge : (end_of S j ≤ scan) ⊎ (scan ≤ place_of S j) → (end_of S j ≤ scan) ⊎ (end_of S x ≤ place_of S j)
      by_edge (inl q) = inl q
      by_edge (inr le) = elim (cases_lt 0 (size_of S j)) as (λ _. (end_of S j ≤ scan) ⊎ (end_of S x ≤ place_of S j)) [
        | inl some ↦ by_apart some le (laid.apart j x ne)
        | inr none ↦ let z : size_of S j ≡ 0 = omega arith in inl (omega (arith, z, laid.none j z))
      ]

  pub edge_behind : IsEdge S (end_of S x)
  edge_behind j = elim (cases_eq j x) as (λ _. (end_of S j ≤ end_of S x) ⊎ (end_of S x ≤ place_of S j)) [
    | inl e ↦ inl (omega (arith, ap (end_of S) e))
    | inr ne ↦ less (passed j ne)
  ]
    where
      less : (end_of S j ≤ scan) ⊎ (end_of S x ≤ place_of S j) → (end_of S j ≤ end_of S x) ⊎ (end_of S x ≤ place_of S j)
      less (inl q) = inl (omega (arith, q, first.high))
      less (inr q) = inr q

  small : x < slot_count S
  small = omega (arith, laid.slots, there_small S x laid (there_of_size S x first.there))

  module _ (from : ℕ) (f : ℕ → ℕ) (low : from ≤ scan) where
    -- a block that begins after it lies in neither range
    behind : (j : ℕ) → end_of S x ≤ place_of S j → end_of S x < end_of S j
    behind j q = elim (cases_lt 0 (size_of S j)) as (λ _. end_of S x < end_of S j) [
      | inl some ↦ omega (arith, q, some)
      | inr none ↦ let z : size_of S j ≡ 0 = omega arith in absurd (omega (arith, q, laid.none j z, first.there))
    ]

    -- the sum with that block is more by it
    pub sum_more : sum_in S from (end_of S x) f ≡ sum_in S from scan f + f x
    sum_more =
        let one = total-one (slot_count S) (only_in S from scan f) (only_in S from (end_of S x) f) x small (λ j ne. same j (passed j ne)) in
        let before : only_in S from scan f x ≡ 0 = off_range S from scan f x (inr (omega (arith, first.high, first.there))) in
        let now : only_in S from (end_of S x) f x ≡ f x = in_range S from (end_of S x) f x (omega (arith, low, first.high)) (omega arith) in
        omega (arith, one, before, now)
      where
        same : (j : ℕ) → (end_of S j ≤ scan) ⊎ (end_of S x ≤ place_of S j) → only_in S from scan f j ≡ only_in S from (end_of S x) f j
        same j (inl q) = only_same S S from scan from (end_of S x) f f j refl (λ r. (r.0, omega (arith, q, first.high))) (λ r. (r.0, q))
        same j (inr q) = only_same S S from scan from (end_of S x) f f j refl (λ r. absurd (omega (arith, r.1, behind j q, first.high)))
            (λ r. absurd (omega (arith, r.1, behind j q)))

    -- up to where it begins nothing more lies
    pub sum_same : sum_in S from (place_of S x) f ≡ sum_in S from scan f
    sum_same = total-same (slot_count S) (only_in S from (place_of S x) f) (only_in S from scan f) each
      where
        beside : (j : ℕ) → (end_of S j ≤ scan) ⊎ (end_of S x ≤ place_of S j) → only_in S from (place_of S x) f j ≡ only_in S from scan f j
        beside j (inl q) = only_same S S from (place_of S x) from scan f f j refl (λ r. (r.0, q)) (λ r. (r.0, omega (arith, q, first.high)))
        beside j (inr q) = only_same S S from (place_of S x) from scan f f j refl (λ r. absurd (omega (arith, r.1, behind j q)))
            (λ r. absurd (omega (arith, r.1, behind j q, first.high)))

        each : (j : ℕ) → only_in S from (place_of S x) f j ≡ only_in S from scan f j
        each j = elim (cases_eq j x) as (λ _. only_in S from (place_of S x) f j ≡ only_in S from scan f j) [
          | inl e ↦ off_range S from (place_of S x) f j (inr (omega (arith, ap (end_of S) e, first.there)))
              ∙ sym (off_range S from scan f j (inr (omega (arith, ap (end_of S) e, first.there, first.high))))
          | inr ne ↦ beside j (passed j ne)
        ]
