-- Packing a range: the free range in it goes from one end to the other.
use Rattle.std.proofs.Common.{◌≡◌, ◌≢◌, ℕ, ◌+◌, ◌-◌, ◌≤◌, ◌<◌, ◌⊎◌, length, slice_index_or, None, refl, ap, sym, subst, ◌∙◌, arith, inl, inr}
use Rattle.std.proofs.lemmas.Bool.{cases_eq, cases_lt}
use Rattle.block_handles.specs.Store.{Store, bytes_in, size_of, locks_of, place_of, end_of, slot_count}
use Rattle.block_handles.specs.Change.{with_place}
use Rattle.block_handles.specs.Layout.{Apart, IsLaidOut}
use Rattle.block_handles.specs.Packing.{IsEdge}
use Rattle.block_handles.specs.Search.{IsFirst, IsLast, BeginsNone}
use Rattle.block_handles.specs.Stretch.{total, only_in, sum_in}
use Rattle.block_handles.proofs.Layouts.{Differs, with_place-differs, there_of_size, there_small}
use Rattle.block_handles.proofs.Sums.{total-one, in_range, off_range, no_weight}
use Rattle.block_handles.proofs.Passing.{only_same, sum_zero, passed}

pub size_along : (S S' : Store) → S'.blocks ≡ S.blocks → (j : ℕ) → size_of S' j ≡ size_of S j
size_along S S' e j = ap (λ bs. length (bytes_in (slice_index_or bs j None))) e

-- a range without a block's begin has no bytes of blocks
none_in : (S : Store) → IsLaidOut S → (from until : ℕ) → BeginsNone S from until → (j : ℕ) → from ≤ place_of S j
    → end_of S j ≤ until → size_of S j ≡ 0
none_in S laid from until none j low high = elim (cases_lt 0 (size_of S j)) as (λ _. size_of S j ≡ 0) [
  | inl some ↦ absurd (none j some low (omega (arith, some, high)))
  | inr empty ↦ omega arith
]

-- below `at` all is packed, from `at` to `scan` all is free
pub record IsPackingDown (old now : Store) (from until at scan : ℕ) : Type 0 where
  pub start : from ≤ at
  pub free : at ≤ scan
  pub more : scan ≤ until
  pub inside : until ≤ now.len.region
  pub blocks : now.blocks ≡ old.blocks
  pub len : now.len ≡ old.len
  pub laid : IsLaidOut now
  pub range : (j : ℕ) → (end_of now j ≤ at) ⊎ ((until ≤ place_of now j) ⊎ ((scan ≤ place_of now j) × (end_of now j ≤ until) × (locks_of old j ≡ 0)))
  pub sum : at + sum_in now scan until (size_of now) ≡ from + sum_in old from until (size_of old)
  pub moved : (j : ℕ) → (place_of now j ≡ place_of old j) ⊎ ((from ≤ place_of old j) × (end_of old j ≤ until)
      × (locks_of old j ≡ 0) × (from ≤ place_of now j) × (end_of now j ≤ at))

module _ (old S : Store) (from until at scan x : ℕ) (w : IsPackingDown old S from until at scan) (first : IsFirst S scan until x) where
  edge : IsEdge S scan
  edge j = by (w.range j)
    where
      by : (end_of S j ≤ at) ⊎ ((until ≤ place_of S j) ⊎ ((scan ≤ place_of S j) × (end_of S j ≤ until) × (locks_of old j ≡ 0)))
          → (end_of S j ≤ scan) ⊎ (scan ≤ place_of S j)
      by (inl q) = inl (omega (arith, q, w.free))
      by (inr (inl q)) = inr (omega (arith, q, w.more))
      by (inr (inr q)) = inr q.0

  own : (end_of S x ≤ until) × (locks_of old x ≡ 0)
  own = by (w.range x)
    where
      by : (end_of S x ≤ at) ⊎ ((until ≤ place_of S x) ⊎ ((scan ≤ place_of S x) × (end_of S x ≤ until) × (locks_of old x ≡ 0)))
          → (end_of S x ≤ until) × (locks_of old x ≡ 0)
      by (inl q) = absurd (omega (arith, q, w.free, first.high, first.there))
      by (inr (inl q)) = absurd (omega (arith, q, first.low))
      by (inr (inr q)) = (q.1, q.2)

  abbrev S' : Store
  S' = with_place S x at

  d : Differs S S' x (size_of S x) at
  d = with_place-differs S x at w.laid (there_small S x w.laid (there_of_size S x first.there))

  small : x < slot_count S
  small = omega (arith, w.laid.slots, there_small S x w.laid (there_of_size S x first.there))

  sum-step : sum_in S scan until (size_of S) ≡ sum_in S' (end_of S x) until (size_of S') + size_of S x
  sum-step =
      let f : ℕ → ℕ = only_in S scan until (size_of S) in
      let g : ℕ → ℕ = only_in S' (end_of S x) until (size_of S') in
      let one : total (slot_count S) f + g x ≡ total (slot_count S) g + f x = total-one (slot_count S) f g x small
      (λ j ne. same j ne (passed S w.laid scan until x first edge j ne)) in
      let here : f x ≡ size_of S x = in_range S scan until (size_of S) x first.high own.0 in
      let gone : g x ≡ 0 = off_range S' (end_of S x) until (size_of S') x (inl (omega (arith, d.place, w.free, first.high, first.there))) in
      omega (arith, one, here, gone)
    where
      same : (j : ℕ) → j ≢ x → (end_of S j ≤ scan) ⊎ (end_of S x ≤ place_of S j)
          → only_in S scan until (size_of S) j ≡ only_in S' (end_of S x) until (size_of S') j
      same j ne (inl q) = elim (cases_lt 0 (size_of S j)) as (λ _. only_in S scan until (size_of S) j ≡ only_in S' (end_of S x) until (size_of S') j) [
        | inl some ↦ only_same S S' scan until (end_of S x) until (size_of S) (size_of S') j refl (λ r. absurd (omega (arith, r.0, q, some)))
            (λ r. absurd (omega (arith, r.0, q, some, d.places j ne, first.high)))
        | inr none ↦ let z : size_of S j ≡ 0 = omega arith in no_weight S scan until (size_of S) j z
            ∙ sym (no_weight S' (end_of S x) until (size_of S') j z)
      ]
      same j ne (inr q) = only_same S S' scan until (end_of S x) until (size_of S) (size_of S') j
          refl (λ r. (omega (arith, q, d.places j ne), omega (arith, r.1, d.places j ne)))
          (λ r. (omega (arith, q, first.high), omega (arith, r.1, d.places j ne)))

  down-with : IsLaidOut S' → IsPackingDown old S' from until (at + size_of S x) (end_of S x)
  down-with laid = record {
    start = omega (arith, w.start);
    free = omega (arith, w.free, first.high);
    more = own.0;
    inside = w.inside;
    blocks = w.blocks;
    len = w.len;
    laid = laid;
    range = λ j. elim (cases_eq j x) as
        (λ _. (end_of S' j ≤ at + size_of S x) ⊎
        ((until ≤ place_of S' j) ⊎ ((end_of S x ≤ place_of S' j) × (end_of S' j ≤ until) × (locks_of old j ≡ 0)))) [
          | inl e ↦ inl (omega (arith, ap (end_of S') e, d.place))
          | inr ne ↦ ranges j (d.places j ne) (passed S w.laid scan until x first edge j ne) (w.range j)
        ];
    sum = omega (arith, w.sum, sum-step);
    moved = λ j. elim (cases_eq j x) as (λ _. (place_of S' j ≡ place_of old j) ⊎ ((from ≤ place_of old j)
        × (end_of old j ≤ until) × (locks_of old j ≡ 0) × (from ≤ place_of S' j) × (end_of S' j ≤ at + size_of S x))) [
          | inl e ↦ here j e (w.moved x)
          | inr ne ↦ there j (d.places j ne) (w.moved j)
        ];
  }
    where
      ranges : (j : ℕ) → place_of S' j ≡ place_of S j → (end_of S j ≤ scan) ⊎ (end_of S x ≤ place_of S j)
          → (end_of S j ≤ at) ⊎ ((until ≤ place_of S j) ⊎ ((scan ≤ place_of S j) × (end_of S j ≤ until) × (locks_of old j ≡ 0)))
          → (end_of S' j ≤ at + size_of S x) ⊎
          ((until ≤ place_of S' j) ⊎ ((end_of S x ≤ place_of S' j) × (end_of S' j ≤ until) × (locks_of old j ≡ 0)))
      ranges j e p (inl q) = inl (omega (arith, q, e))
      ranges j e p (inr (inl q)) = inr (inl (omega (arith, q, e)))
      ranges j e (inr p) (inr (inr q)) = inr (inr (omega (arith, p, e), omega (arith, q.1, e), q.2))
      ranges j e (inl p) (inr (inr q)) = let z : size_of S j ≡ 0 = omega (arith, p, q.0) in inl (omega (arith, z, e, w.laid.none j z))

      there : (j : ℕ) → place_of S' j ≡ place_of S j → (place_of S j ≡ place_of old j) ⊎ ((from ≤ place_of old j)
          × (end_of old j ≤ until) × (locks_of old j ≡ 0) × (from ≤ place_of S j) × (end_of S j ≤ at))
          → (place_of S' j ≡ place_of old j) ⊎ ((from ≤ place_of old j) × (end_of old j ≤ until) × (locks_of old j ≡ 0)
          × (from ≤ place_of S' j) × (end_of S' j ≤ at + size_of S x))
      there j e (inl q) = inl (e ∙ q)
      there j e (inr q) = inr (q.0, q.1, q.2, omega (arith, q.3, e), omega (arith, q.4, e))

      moved_here : (place_of S x ≡ place_of old x) ⊎ ((from ≤ place_of old x) × (end_of old x ≤ until) × (locks_of old x ≡ 0)
          × (from ≤ place_of S x) × (end_of S x ≤ at))
          → (from ≤ place_of old x) × (end_of old x ≤ until) × (locks_of old x ≡ 0) × (from ≤ place_of S' x) × (end_of S' x ≤ at + size_of S x)
      moved_here (inl q) = (
        omega (arith, q, w.start, w.free, first.high),
        omega (arith, q, own.0, size_along old S w.blocks x),
        own.1,
        omega (arith, d.place, w.start),
        omega (arith, d.place),
      )
      moved_here (inr q) = absurd (omega (arith, q.4, w.free, first.high, first.there))

      here : (j : ℕ) → j ≡ x → (place_of S x ≡ place_of old x) ⊎ ((from ≤ place_of old x) × (end_of old x ≤ until)
          × (locks_of old x ≡ 0) × (from ≤ place_of S x) × (end_of S x ≤ at))
          → (place_of S' j ≡ place_of old j) ⊎ ((from ≤ place_of old j) × (end_of old j ≤ until) × (locks_of old j ≡ 0)
          × (from ≤ place_of S' j) × (end_of S' j ≤ at + size_of S x))
      here j e m = inr (subst (λ k. (from ≤ place_of old k) × (end_of old k ≤ until) × (locks_of old k ≡ 0)
          × (from ≤ place_of S' k) × (end_of S' k ≤ at + size_of S x)) (sym e) (moved_here m))

  pub down-step : (new : Store) → new ≡ with_place S x at → IsLaidOut new → IsPackingDown old new from until (at + size_of S x) (end_of S x)
  down-step new e laid = subst (λ s. IsPackingDown old s from until (at + size_of S x) (end_of S x)) (sym e) (down-with (subst IsLaidOut e laid))

module _ (old S : Store) (from until at scan : ℕ) (w : IsPackingDown old S from until at scan) (none : BeginsNone S scan until) where
  pub down-sum : at ≡ from + sum_in old from until (size_of old)
  down-sum = omega (arith, w.sum, sum_zero S scan until (size_of S) (none_in S w.laid scan until none))

-- above `at` all is packed, from `scan` to `at` all is free
pub record IsPackingUp (old now : Store) (from until at scan : ℕ) : Type 0 where
  pub start : from ≤ scan
  pub free : scan ≤ at
  pub more : at ≤ until
  pub inside : until ≤ now.len.region
  pub blocks : now.blocks ≡ old.blocks
  pub len : now.len ≡ old.len
  pub laid : IsLaidOut now
  pub range : (j : ℕ) → (at ≤ place_of now j) ⊎ ((end_of now j ≤ from) ⊎ ((from ≤ place_of now j) × (end_of now j ≤ scan) × (locks_of old j ≡ 0)))
  pub sum : at + sum_in old from until (size_of old) ≡ until + sum_in now from scan (size_of now)
  pub moved : (j : ℕ) → (place_of now j ≡ place_of old j) ⊎ ((from ≤ place_of old j) × (end_of old j ≤ until)
      × (locks_of old j ≡ 0) × (at ≤ place_of now j) × (end_of now j ≤ until))

module _ (old S : Store) (from until at scan x : ℕ) (w : IsPackingUp old S from until at scan) (last : IsLast S from scan x) where
  -- every other block begins at or after the scan, or ends before this block
  passed-up : (j : ℕ) → j ≢ x → (scan ≤ place_of S j) ⊎ (end_of S j ≤ place_of S x)
  passed-up j ne = elim (cases_lt (place_of S j) scan) as (λ _. (scan ≤ place_of S j) ⊎ (end_of S j ≤ place_of S x)) [
    | inr ge ↦ inl ge
    | inl lt ↦ elim (cases_lt 0 (size_of S j)) as (λ _. (scan ≤ place_of S j) ⊎ (end_of S j ≤ place_of S x)) [
      | inl some ↦ by lt some (w.laid.apart j x ne)
      | inr none ↦ let z : size_of S j ≡ 0 = omega arith in inr (omega (arith, z, w.laid.none j z))
    ]
  ]
    where
      by : place_of S j < scan → 0 < size_of S j → Apart S j x → (scan ≤ place_of S j) ⊎ (end_of S j ≤ place_of S x)
      by lt some (inl q) = inr q
      by lt some (inr q) = absurd (omega (arith, q, last.there, last.last j some lt))

  own-up : (end_of S x ≤ scan) × (locks_of old x ≡ 0)
  own-up = by (w.range x)
    where
      by : (at ≤ place_of S x) ⊎ ((end_of S x ≤ from) ⊎ ((from ≤ place_of S x) × (end_of S x ≤ scan) × (locks_of old x ≡ 0)))
          → (end_of S x ≤ scan) × (locks_of old x ≡ 0)
      by (inl q) = absurd (omega (arith, q, w.free, last.low))
      by (inr (inl q)) = absurd (omega (arith, q, last.high, last.there))
      by (inr (inr q)) = (q.1, q.2)

  -- no block has bytes both before and after the scan
  nowhere : (j : ℕ) → scan ≤ place_of S j → end_of S j ≤ scan → ⊥
  nowhere j p q = let z : size_of S j ≡ 0 = omega arith in absurd (omega (arith, p, w.laid.none j z, last.low))

  pub up-enough : size_of S x ≤ at
  up-enough = omega (arith, own-up.0, w.free)

  abbrev to : ℕ
  to = at - size_of S x

  to-is : to + size_of S x ≡ at
  to-is = omega (arith, up-enough)

  abbrev U : Store
  U = with_place S x to

  u : Differs S U x (size_of S x) to
  u = with_place-differs S x to w.laid (there_small S x w.laid (there_of_size S x last.there))

  small-up : x < slot_count S
  small-up = omega (arith, w.laid.slots, there_small S x w.laid (there_of_size S x last.there))

  sum-up : sum_in S from scan (size_of S) ≡ sum_in U from (place_of S x) (size_of U) + size_of S x
  sum-up =
      let f : ℕ → ℕ = only_in S from scan (size_of S) in
      let g : ℕ → ℕ = only_in U from (place_of S x) (size_of U) in
      let one : total (slot_count S) f + g x ≡ total (slot_count S) g + f x = total-one (slot_count S) f g x small-up
      (λ j ne. same j ne (passed-up j ne)) in
      let here : f x ≡ size_of S x = in_range S from scan (size_of S) x last.high own-up.0 in
      let gone : g x ≡ 0 = off_range U from (place_of S x) (size_of U) x (inr (omega (arith, u.place, to-is, w.free, last.low))) in
      omega (arith, one, here, gone)
    where
      same : (j : ℕ) → j ≢ x → (scan ≤ place_of S j) ⊎ (end_of S j ≤ place_of S x)
          → only_in S from scan (size_of S) j ≡ only_in U from (place_of S x) (size_of U) j
      same j ne (inl q) = only_same S U from scan from (place_of S x) (size_of S) (size_of U) j refl (λ r. absurd (nowhere j q r.1))
          (λ r. absurd (nowhere j q (omega (arith, r.1, u.places j ne, last.low))))
      same j ne (inr q) = only_same S U from scan from (place_of S x) (size_of S) (size_of U) j
          refl (λ r. (omega (arith, r.0, u.places j ne), omega (arith, q, u.places j ne)))
          (λ r. (omega (arith, r.0, u.places j ne), omega (arith, q, last.low)))

  up-with : IsLaidOut U → IsPackingUp old U from until to (place_of S x)
  up-with laid = record {
    start = last.high;
    free = omega (arith, to-is, own-up.0, w.free);
    more = omega (arith, to-is, w.more);
    inside = w.inside;
    blocks = w.blocks;
    len = w.len;
    laid = laid;
    range = λ j. elim (cases_eq j x) as
        (λ _. (to ≤ place_of U j) ⊎ ((end_of U j ≤ from) ⊎ ((from ≤ place_of U j) × (end_of U j ≤ place_of S x) × (locks_of old j ≡ 0)))) [
          | inl e ↦ inl (omega (arith, ap (place_of U) e, u.place))
          | inr ne ↦ ranges j (u.places j ne) (passed-up j ne) (w.range j)
        ];
    sum = omega (arith, w.sum, sum-up, to-is);
    moved = λ j. elim (cases_eq j x) as (λ _. (place_of U j ≡ place_of old j) ⊎ ((from ≤ place_of old j)
        × (end_of old j ≤ until) × (locks_of old j ≡ 0) × (to ≤ place_of U j) × (end_of U j ≤ until))) [
          | inl e ↦ here j e (w.moved x)
          | inr ne ↦ there j (u.places j ne) (w.moved j)
        ];
  }
    where
      ranges : (j : ℕ) → place_of U j ≡ place_of S j → (scan ≤ place_of S j) ⊎ (end_of S j ≤ place_of S x)
          → (at ≤ place_of S j) ⊎ ((end_of S j ≤ from) ⊎ ((from ≤ place_of S j) × (end_of S j ≤ scan) × (locks_of old j ≡ 0)))
          → (to ≤ place_of U j) ⊎ ((end_of U j ≤ from) ⊎ ((from ≤ place_of U j) × (end_of U j ≤ place_of S x) × (locks_of old j ≡ 0)))
      ranges j e p (inl q) = inl (omega (arith, q, e, to-is))
      ranges j e p (inr (inl q)) = inr (inl (omega (arith, q, e)))
      ranges j e (inr p) (inr (inr q)) = inr (inr (omega (arith, q.0, e), omega (arith, p, e), q.2))
      ranges j e (inl p) (inr (inr q)) = absurd (nowhere j p q.1)

      there : (j : ℕ) → place_of U j ≡ place_of S j → (place_of S j ≡ place_of old j) ⊎ ((from ≤ place_of old j)
          × (end_of old j ≤ until) × (locks_of old j ≡ 0) × (at ≤ place_of S j) × (end_of S j ≤ until))
          → (place_of U j ≡ place_of old j) ⊎ ((from ≤ place_of old j) × (end_of old j ≤ until) × (locks_of old j ≡ 0)
          × (to ≤ place_of U j) × (end_of U j ≤ until))
      there j e (inl q) = inl (e ∙ q)
      there j e (inr q) = inr (q.0, q.1, q.2, omega (arith, q.3, e, to-is), omega (arith, q.4, e))

      moved_here : (place_of S x ≡ place_of old x) ⊎ ((from ≤ place_of old x) × (end_of old x ≤ until) × (locks_of old x ≡ 0)
          × (at ≤ place_of S x) × (end_of S x ≤ until))
          → (from ≤ place_of old x) × (end_of old x ≤ until) × (locks_of old x ≡ 0) × (to ≤ place_of U x) × (end_of U x ≤ until)
      moved_here (inl q) = (
        omega (arith, q, last.high),
        omega (arith, q, own-up.0, w.free, w.more, size_along old S w.blocks x),
        own-up.1,
        omega (arith, u.place),
        omega (arith, u.place, to-is, w.more),
      )
      moved_here (inr q) = absurd (omega (arith, q.3, w.free, last.low))

      here : (j : ℕ) → j ≡ x → (place_of S x ≡ place_of old x) ⊎ ((from ≤ place_of old x) × (end_of old x ≤ until)
          × (locks_of old x ≡ 0) × (at ≤ place_of S x) × (end_of S x ≤ until))
          → (place_of U j ≡ place_of old j) ⊎ ((from ≤ place_of old j) × (end_of old j ≤ until) × (locks_of old j ≡ 0)
          × (to ≤ place_of U j) × (end_of U j ≤ until))
      here j e m = inr (subst (λ k. (from ≤ place_of old k) × (end_of old k ≤ until) × (locks_of old k ≡ 0)
          × (to ≤ place_of U k) × (end_of U k ≤ until)) (sym e) (moved_here m))

  pub up-step : (new : Store) → new ≡ with_place S x to → IsLaidOut new → IsPackingUp old new from until to (place_of S x)
  up-step new e laid = subst (λ s. IsPackingUp old s from until to (place_of S x)) (sym e) (up-with (subst IsLaidOut e laid))

module _ (old S : Store) (from until at scan : ℕ) (w : IsPackingUp old S from until at scan) (none : BeginsNone S from scan) where
  pub up-sum : at + sum_in old from until (size_of old) ≡ until
  up-sum = omega (arith, w.sum, sum_zero S from scan (size_of S) (none_in S w.laid from scan none))
