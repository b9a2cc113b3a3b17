-- The walk from an offset on that finds the next stretch with room.
use Rattle.std.proofs.Common.{◌≡◌, ◌≢◌, ℕ, ◌+◌, ◌-◌, ◌≤◌, ◌<◌, ◌⊎◌, ap, sym, ◌∙◌, refl, arith, inl, inr}
use Rattle.std.proofs.lemmas.Bool.{cases_eq, cases_lt}
use Rattle.block_handles.specs.Store.{Store, size_of, locks_of, place_of, end_of, slot_count}
use Rattle.block_handles.specs.Layout.{IsLaidOut}
use Rattle.block_handles.specs.Packing.{IsEdge, CanPackBut, IsRoomy}
use Rattle.block_handles.specs.Search.{IsFirst, BeginsNone}
use Rattle.block_handles.specs.Stretch.{only_in, sum_in, unlocked_size, IsOtherLocked}
use Rattle.block_handles.proofs.Layouts.{there_of_locks}
use Rattle.block_handles.proofs.Sums.{total-same, unlocked-but, unlocked-other, unlocked-none}
use Rattle.block_handles.proofs.Passing.{only_same, sum_zero, passed, edge_behind, sum_more, sum_same}

-- a stretch begins at `from`; all blocks below `scan` are seen
pub record HasPassed (S : Store) (but from scan taken : ℕ) : Type 0 where
  pub ordered : from + taken ≤ scan
  pub inside : scan ≤ S.len.region
  pub taken_is : taken ≡ sum_in S from scan (unlocked_size S but)
  pub begins : IsEdge S from
  pub edge : IsEdge S scan
  pub locks : (j : ℕ) → IsOtherLocked S but j → (end_of S j ≤ from) ⊎ (scan ≤ place_of S j)

-- what is locked has bytes
pub some_size : (S : Store) (laid : IsLaidOut S) (j : ℕ) → 0 < locks_of S j → 0 < size_of S j
some_size S laid j h = omega (arith, (laid.sized j (there_of_locks S j h)).0)

module _ (S : Store) (laid : IsLaidOut S) (but : ℕ) where
  -- an empty range sums to nothing
  pub empty_sum : (at : ℕ) → sum_in S at at (unlocked_size S but) ≡ 0
  empty_sum at = sum_zero S at at (unlocked_size S but) (λ j low high. unlocked-none S but j (omega arith))

  -- what lies in a range in which no other block is locked can be packed
  packable : (from until : ℕ) → IsEdge S from → IsEdge S until → ((j : ℕ) → IsOtherLocked S but j → (end_of S j ≤ from) ⊎ (until ≤ place_of S j))
      → CanPackBut S but from until
  packable from until low high locks j = by_low (low j)
    where
      inside : from ≤ place_of S j → end_of S j ≤ until
          → (end_of S j ≤ from) ⊎ ((until ≤ place_of S j) ⊎ ((from ≤ place_of S j) × (end_of S j ≤ until) × ((j ≡ but) ⊎ (locks_of S j ≡ 0))))
      inside ge le = elim (cases_eq j but) as
          (λ _. (end_of S j ≤ from) ⊎ ((until ≤ place_of S j) ⊎ ((from ≤ place_of S j) × (end_of S j ≤ until) × ((j ≡ but) ⊎ (locks_of S j ≡ 0))))) [
            | inl e ↦ inr (inr (ge, le, inl e))
            | inr ne ↦ elim (cases_lt 0 (locks_of S j)) as
                (λ _. (end_of S j ≤ from) ⊎ ((until ≤ place_of S j) ⊎ ((from ≤ place_of S j) × (end_of S j ≤ until) × ((j ≡ but) ⊎ (locks_of S j ≡ 0))))) [
                  | inl some ↦ off (locks j (ne, some))
                  | inr none ↦ inr (inr (ge, le, inr (omega arith)))
                ]
          ]
        where
          off : (end_of S j ≤ from) ⊎ (until ≤ place_of S j)
              → (end_of S j ≤ from) ⊎ ((until ≤ place_of S j) ⊎ ((from ≤ place_of S j) × (end_of S j ≤ until) × ((j ≡ but) ⊎ (locks_of S j ≡ 0))))
          off (inl q) = inl q
          off (inr q) = inr (inl q)

      by_high : from ≤ place_of S j → (end_of S j ≤ until) ⊎ (until ≤ place_of S j)
          → (end_of S j ≤ from) ⊎ ((until ≤ place_of S j) ⊎ ((from ≤ place_of S j) × (end_of S j ≤ until) × ((j ≡ but) ⊎ (locks_of S j ≡ 0))))
      by_high ge (inl le) = inside ge le
      by_high ge (inr q) = inr (inl q)

      by_low : (end_of S j ≤ from) ⊎ (from ≤ place_of S j)
          → (end_of S j ≤ from) ⊎ ((until ≤ place_of S j) ⊎ ((from ≤ place_of S j) × (end_of S j ≤ until) × ((j ≡ but) ⊎ (locks_of S j ≡ 0))))
      by_low (inl q) = inl q
      by_low (inr q) = by_high q (high j)

  pub pass-init : (after : ℕ) → IsEdge S after → after ≤ S.len.region → HasPassed S but after after 0
  pass-init after edge inside = record {
    ordered = omega arith;
    inside = inside;
    taken_is = sym (empty_sum after);
    begins =
        edge;
    edge = edge;
    locks = λ j h. edge j;
  }

  module _ (from scan taken x : ℕ) (w : HasPassed S but from scan taken) (first : IsFirst S scan S.len.region x) where
    low : from ≤ scan
    low = omega (arith, w.ordered)

    before : from + taken ≤ place_of S x
    before = omega (arith, w.ordered, first.high)

    -- what is locked beside the block lies off the stretch up to its end
    pub rest : (j : ℕ) → IsOtherLocked S but j → j ≢ x → (end_of S j ≤ from) ⊎ (end_of S x ≤ place_of S j)
    rest j h ne = by (w.locks j h)
      where
        by_passed : scan ≤ place_of S j → (end_of S j ≤ scan) ⊎ (end_of S x ≤ place_of S j) → (end_of S j ≤ from) ⊎ (end_of S x ≤ place_of S j)
        by_passed q (inl r) = absurd (omega (arith, q, r, some_size S laid j h.1))
        by_passed q (inr r) = inr r

        by : (end_of S j ≤ from) ⊎ (scan ≤ place_of S j) → (end_of S j ≤ from) ⊎ (end_of S x ≤ place_of S j)
        by (inl q) = inl q
        by (inr q) = by_passed q (passed S laid scan S.len.region x first w.edge j ne)

    unlocked_more : sum_in S from (end_of S x) (unlocked_size S but) ≡ sum_in S from scan (unlocked_size S but) + unlocked_size S but x
    unlocked_more = sum_more S laid scan S.len.region x first w.edge from (unlocked_size S but) low

    pub pass-own : x ≡ but → HasPassed S but from (end_of S x) taken
    pass-own e = record {
      ordered = omega (arith, w.ordered, first.high);
      inside = laid.within x;
      taken_is = omega (arith, w.taken_is, unlocked_more, unlocked-but S but x e);
      begins = w.begins;
      edge = edge_behind S laid scan S.len.region x first w.edge;
      locks = λ j h. rest j h (λ z. h.0 (z ∙ e));
    }

    pub pass-unlocked : x ≢ but → locks_of S x ≡ 0 → HasPassed S but from (end_of S x) (taken + size_of S x)
    pass-unlocked ne none = record {
      ordered = omega (arith, w.ordered, first.high);
      inside = laid.within x;
      taken_is = omega (arith, w.taken_is, unlocked_more, unlocked-other S but x ne none);
      begins = w.begins;
      edge = edge_behind S laid scan S.len.region x first w.edge;
      locks = λ j h. rest j h (λ z. absurd (omega (arith, h.1, ap (locks_of S) z, none)));
    }

    pub pass-locked : HasPassed S but (end_of S x) (end_of S x) 0
    pass-locked = pass-init (end_of S x) (edge_behind S laid scan S.len.region x first w.edge) (laid.within x)

    pub before_same : sum_in S from (place_of S x) (unlocked_size S but) ≡ sum_in S from scan (unlocked_size S but)
    before_same = sum_same S laid scan S.len.region x first w.edge from (unlocked_size S but) low

    -- the stretch that a locked block ends
    pub roomy-before : (room : ℕ) → room ≡ place_of S x - (from + taken) → IsRoomy S but from (place_of S x) room
    roomy-before room e = record {
      ordered = omega (arith, low, first.high);
      inside = omega (arith, first.low);
      packs = packable from (place_of S x) w.begins edge_at locks_to;
      fits = omega (arith, before_same, w.taken_is, e, before);
    }
      where
        edge_at : IsEdge S (place_of S x)
        edge_at j = elim (cases_eq j x) as (λ _. (end_of S j ≤ place_of S x) ⊎ (place_of S x ≤ place_of S j))
            [ inl e ↦ inr (omega (arith, ap (place_of S) e)) | inr nx ↦ near j (passed S laid scan S.len.region x first w.edge j nx) ]
          where
            near : (j : ℕ) → (end_of S j ≤ scan) ⊎ (end_of S x ≤ place_of S j) → (end_of S j ≤ place_of S x) ⊎ (place_of S x ≤ place_of S j)
            near j (inl q) = inl (omega (arith, q, first.high))
            near j (inr q) = inr (omega (arith, q))

        locks_to : (j : ℕ) → IsOtherLocked S but j → (end_of S j ≤ from) ⊎ (place_of S x ≤ place_of S j)
        locks_to j h = elim (cases_eq j x) as (λ _. (end_of S j ≤ from) ⊎ (place_of S x ≤ place_of S j))
            [ inl e ↦ inr (omega (arith, ap (place_of S) e)) | inr nx ↦ near j (rest j h nx) ]
          where
            near : (j : ℕ) → (end_of S j ≤ from) ⊎ (end_of S x ≤ place_of S j) → (end_of S j ≤ from) ⊎ (place_of S x ≤ place_of S j)
            near j (inl q) = inl q
            near j (inr q) = inr (omega (arith, q))

  -- no block begins after those that the scan has passed
  module _ (from scan taken : ℕ) (w : HasPassed S but from scan taken) (none : BeginsNone S scan S.len.region) where
    pub ended : (j : ℕ) → end_of S j ≤ scan
    ended j = by (w.edge j)
      where
        by : (end_of S j ≤ scan) ⊎ (scan ≤ place_of S j) → end_of S j ≤ scan
        by (inl q) = q
        by (inr q) = elim (cases_lt 0 (size_of S j)) as (λ _. end_of S j ≤ scan) [
          | inl some ↦ absurd (none j some q (omega (arith, some, laid.within j)))
          | inr empty ↦ let z : size_of S j ≡ 0 = omega arith in omega (arith, z, laid.none j z)
        ]

    pub locked_before : (j : ℕ) → IsOtherLocked S but j → end_of S j ≤ from
    locked_before j h = by (w.locks j h)
      where
        by : (end_of S j ≤ from) ⊎ (scan ≤ place_of S j) → end_of S j ≤ from
        by (inl q) = q
        by (inr q) = absurd (omega (arith, q, ended j, some_size S laid j h.1))

    pub last_same : sum_in S from S.len.region (unlocked_size S but) ≡ sum_in S from scan (unlocked_size S but)
    last_same = total-same (slot_count S) (only_in S from S.len.region (unlocked_size S but)) (only_in S from scan (unlocked_size S but))
        (λ j. only_same S S from S.len.region from scan (unlocked_size S but) (unlocked_size S but) j refl (λ r. (r.0, ended j)) (λ r. (r.0, laid.within j)))

    -- the last stretch
    pub roomy-last : (room : ℕ) → room ≡ S.len.region - (from + taken) → IsRoomy S but from S.len.region room
    roomy-last room e = record {
      ordered = omega (arith, w.ordered, w.inside);
      inside = omega arith;
      packs = packable from S.len.region w.begins (λ j. inl (laid.within j)) (λ j h. inl (locked_before j h));
      fits = omega (arith, last_same, w.taken_is, e, w.ordered, w.inside);
    }
