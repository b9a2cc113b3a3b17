-- The walk over all blocks that finds the roomiest stretch.
use Rattle.std.proofs.Common.{◌≡◌, ◌≢◌, ℕ, ◌+◌, ◌-◌, ◌*◌, ◌≤◌, ◌<◌, ◌⊎◌, refl, ap, sym, subst, ◌∙◌, arith, inl, inr}
use Rattle.std.proofs.Math.Nat.{mul-le-mul_left}
use Rattle.std.proofs.lemmas.Bool.{cases_eq, cases_lt}
use Rattle.block_handles.specs.declared.stretch.Stretch.{Stretch}
use Rattle.block_handles.specs.Wider.{IsWider}
use Rattle.block_handles.specs.Store.{Store, size_of, locks_of, place_of, end_of}
use Rattle.block_handles.specs.Layout.{IsLaidOut}
use Rattle.block_handles.specs.Packing.{IsRoomy, IsRoomiest}
use Rattle.block_handles.specs.Search.{IsFirst, BeginsNone}
use Rattle.block_handles.specs.Stretch.{sum_in, other_size, unlocked_size, locked_one, IsOtherLocked, IsStretch, other_locked, other_sizes}
use Rattle.block_handles.proofs.Sums.{other-but, other-other, one-but, one-unlocked, one-locked}
use Rattle.block_handles.proofs.Passes.{HasPassed, some_size, empty_sum, pass-init, pass-own, pass-unlocked, pass-locked, rest, before_same, roomy-before, ended, locked_before, last_same, roomy-last}
use Rattle.block_handles.proofs.Passing.{sum_all, sum_more}

-- a stretch that was found
abbrev pub IsFound : Store → ℕ → Stretch → Type 0
IsFound S but b = IsRoomy S but b.from b.until b.room

-- how far a walk has come: beside what it has passed, the roomiest stretch that it has found
pub record HasWalked (S : Store) (but from scan taken : ℕ) (b : Stretch) : Type 0 where
  pub passed : HasPassed S but from scan taken
  pub found : IsFound S but b
  pub most : (a c : ℕ) → IsStretch S but a c → a < from → c ≤ a + sum_in S a c (unlocked_size S but) + b.room
  pub crowd : from + taken ≤ sum_in S 0 scan (locked_one S but) * b.room + sum_in S 0 scan (other_size S but)

module _ (S : Store) (laid : IsLaidOut S) (but : ℕ) where
  pub walk-init : HasWalked S but 0 0 0 (record { from = 0; until = 0; room = 0 })
  walk-init = record {
    passed = pass-init S laid but 0 (λ j. inr (omega arith)) (omega arith);
    found = record {
      ordered = omega arith;
      inside = omega arith;
      packs = λ j. inr (inl (omega arith));
      fits =
          omega (arith, empty_sum S laid but 0);
    };
    most = λ a c s h. absurd (omega (arith, h));
    crowd = omega arith;
  }

  -- the wider of two stretches
  record IsBetter (b b' : Stretch) (from until taken : ℕ) : Type 0 where
    found : IsFound S but b'
    more : b.room ≤ b'.room
    enough : until ≤ from + taken + b'.room

  better : (b b' : Stretch) (from until taken : ℕ) → IsFound S but b → from + taken ≤ until
      → ((room : ℕ) → room ≡ until - (from + taken) → IsRoomy S but from until room) → IsWider b from until taken b' → IsBetter b b' from until taken
  better b b' from until taken f fits roomy (inl q) = record {
    found = subst (IsFound S but) (sym q.0) f;
    more =
        omega (arith, ap (λ s. s.room) q.0);
    enough = omega (arith, ap (λ s. s.room) q.0, q.1);
  }
  better b b' from until taken f fits roomy (inr q) = record {
    found = subst (IsFound S but) (sym q.0) (roomy _ refl);
    more = omega (arith, ap (λ s. s.room) q.0, q.1);
    enough = omega (arith, ap (λ s. s.room) q.0, q.1, fits);
  }

  module _ (from scan taken x : ℕ) (b : Stretch) (w : HasWalked S but from scan taken b) (first : IsFirst S scan S.len.region x) where
    ones_more : sum_in S 0 (end_of S x) (locked_one S but) ≡ sum_in S 0 scan (locked_one S but) + locked_one S but x
    ones_more = sum_more S laid scan S.len.region x first w.passed.edge 0 (locked_one S but) (omega arith)

    sizes_more : sum_in S 0 (end_of S x) (other_size S but) ≡ sum_in S 0 scan (other_size S but) + other_size S but x
    sizes_more = sum_more S laid scan S.len.region x first w.passed.edge 0 (other_size S but) (omega arith)

    -- the block itself is passed over
    pub walk-own : x ≡ but → HasWalked S but from (end_of S x) taken b
    walk-own e =
        let ones : sum_in S 0 (end_of S x) (locked_one S but) ≡ sum_in S 0 scan (locked_one S but) = omega (arith, ones_more, one-but S but x e) in
        record {
          passed = pass-own S laid but from scan taken x w.passed first e;
          found = w.found;
          most = w.most;
          crowd =
              rw ones (omega (arith, w.crowd, sizes_more, other-but S but x e));
        }

    -- an unlocked block is added
    pub walk-unlocked : x ≢ but → locks_of S x ≡ 0 → HasWalked S but from (end_of S x) (taken + size_of S x) b
    walk-unlocked ne none =
        let ones : sum_in S 0 (end_of S x) (locked_one S but) ≡ sum_in S 0 scan (locked_one S but) =
        omega (arith, ones_more, one-unlocked S but x none) in
        record {
          passed = pass-unlocked S laid but from scan taken x w.passed first ne none;
          found = w.found;
          most =
              w.most;
          crowd = rw ones (omega (arith, w.crowd, sizes_more, other-other S but x ne));
        }

    -- a locked block ends the stretch
    pub walk-locked : x ≢ but → 0 < locks_of S x → (b' : Stretch) → IsWider b from (place_of S x) taken b'
        → HasWalked S but (end_of S x) (end_of S x) 0 b'
    walk-locked ne some b' wider =
        let good : IsBetter b b' from (place_of S x) taken = better b b' from (place_of S x) taken w.found
        (omega (arith, w.passed.ordered, first.high)) (roomy-before S laid but from scan taken x w.passed first) wider in
        let ones : sum_in S 0 (end_of S x) (locked_one S but) ≡ sum_in S 0 scan (locked_one S but) + 1 =
        omega (arith, ones_more, one-locked S but x ne some) in
        record {
          passed = pass-locked S laid but from scan taken x w.passed first;
          found = good.found;
          most = λ a c s h. elim (cases_lt a from) as (λ _. c ≤ a + sum_in S a c (unlocked_size S but) + b'.room) [
            | inl lt ↦ omega (arith, w.most a c s lt, good.more)
            | inr ge ↦
                let ea : a ≡ from = starts a c s ge h in
                let ec : c ≡ place_of S x = stops a c s ea h in
                rw (ea, ec) (omega (arith, before_same S laid but from scan taken x w.passed first, w.passed.taken_is, good.enough))
          ];
          crowd = rw ones (omega (
            arith,
            w.crowd,
            sizes_more,
            other-other S but x ne,
            good.enough,
            mul-le-mul_left
                (sum_in S 0 scan (locked_one S but)) good.more,
          ));
        }
      where
        beside : (j : ℕ) → IsOtherLocked S but j → j ≢ x → (end_of S j ≤ from) ⊎ (end_of S x ≤ place_of S j)
        beside = rest S laid but from scan taken x w.passed first

        -- a stretch that begins in here begins at `from`
        starts : (a c : ℕ) → IsStretch S but a c → from ≤ a → a < end_of S x → a ≡ from
        starts a c s ge h = by s.begins
          where
            at : (y : ℕ) → IsOtherLocked S but y → end_of S y ≡ a → (end_of S y ≤ from) ⊎ (end_of S x ≤ place_of S y) → a ≡ from
            at y l e (inl q) = omega (arith, q, e, ge)
            at y l e (inr q) = absurd (omega (arith, q, e, h))

            by : (a ≡ 0) ⊎ ((slot : ℕ) × IsOtherLocked S but slot × (end_of S slot ≡ a)) → a ≡ from
            by (inl z) = omega (arith, z, ge)
            by (inr (y, l, e)) = elim (cases_eq y x) as (λ _. a ≡ from)
                [ inl q ↦ absurd (omega (arith, h, e, ap (end_of S) q)) | inr nx ↦ at y l e (beside y l nx) ]

        -- and ends where the block begins
        stops : (a c : ℕ) → IsStretch S but a c → a ≡ from → a < end_of S x → c ≡ place_of S x
        stops a c s ea h = by s.ends (before (s.between x (ne, some)))
          where
            before : (end_of S x ≤ a) ⊎ (c ≤ place_of S x) → c ≤ place_of S x
            before (inl q) = absurd (omega (arith, q, h))
            before (inr q) = q

            at : (z : ℕ) → IsOtherLocked S but z → place_of S z ≡ c → c ≤ place_of S x → (end_of S z ≤ from) ⊎ (end_of S x ≤ place_of S z)
                → c ≡ place_of S x
            at z l e le (inl q) = absurd (omega (arith, q, e, ea, s.ordered, some_size S laid z l.1))
            at z l e le (inr q) = absurd (omega (arith, q, e, le, first.there))

            by : (c ≡ S.len.region) ⊎ ((slot : ℕ) × IsOtherLocked S but slot × (place_of S slot ≡ c)) → c ≤ place_of S x → c ≡ place_of S x
            by (inl e) le = absurd (omega (arith, e, le, first.low))
            by (inr (z, l, e)) le = elim (cases_eq z x) as (λ _. c ≡ place_of S x) [
              | inl q ↦ sym e
                  ∙ ap (place_of S) q
              | inr nx ↦ at z l e le (beside z l nx)
            ]

  -- all blocks are passed
  pub walk-done : (from scan taken : ℕ) (b b' : Stretch) → HasWalked S but from scan taken b → BeginsNone S scan S.len.region
      → IsWider b from S.len.region taken b' → IsRoomiest S but b'.from b'.until b'.room
  walk-done from scan taken b b' w none wider =
      let good : IsBetter b b' from S.len.region taken = better b b' from S.len.region taken w.found (omega (arith, w.passed.ordered, w.passed.inside))
      (roomy-last S laid but from scan taken w.passed none) wider in
      let low = ended S laid but from scan taken w.passed none in
      let ones : sum_in S 0 scan (locked_one S but) ≡ other_locked S but = sum_all S 0 scan (locked_one S but) (λ j. inl (omega arith, low j)) in
      let sizes : sum_in S 0 scan (other_size S but) ≡ other_sizes S but = sum_all S 0 scan (other_size S but) (λ j. inl (omega arith, low j)) in
      record {
        ordered = good.found.ordered;
        inside = good.found.inside;
        packs = good.found.packs;
        fits = good.found.fits;
        most = λ a c s. elim (cases_lt a from) as (λ _. c ≤ a + sum_in S a c (unlocked_size S but) + b'.room) [
          | inl lt ↦ omega (arith, w.most a c s lt, good.more)
          | inr ge ↦
              let ea : a ≡ from = starts a c s ge in
              let ec : c ≡ S.len.region = stops a c s ea in
              rw (ea, ec) (omega (arith, last_same S laid but from scan taken w.passed none, w.passed.taken_is, good.enough))
        ];
        crowd = rw (← ones, ← sizes) (omega (arith, w.crowd, good.enough, mul-le-mul_left (sum_in S 0 scan (locked_one S but)) good.more));
      }
    where
      before : (j : ℕ) → IsOtherLocked S but j → end_of S j ≤ from
      before = locked_before S laid but from scan taken w.passed none

      starts : (a c : ℕ) → IsStretch S but a c → from ≤ a → a ≡ from
      starts a c s ge = by s.begins
        where
          by : (a ≡ 0) ⊎ ((slot : ℕ) × IsOtherLocked S but slot × (end_of S slot ≡ a)) → a ≡ from
          by (inl z) = omega (arith, z, ge)
          by (inr (y, l, e)) = omega (arith, before y l, e, ge)

      stops : (a c : ℕ) → IsStretch S but a c → a ≡ from → c ≡ S.len.region
      stops a c s ea = by s.ends
        where
          by : (c ≡ S.len.region) ⊎ ((slot : ℕ) × IsOtherLocked S but slot × (place_of S slot ≡ c)) → c ≡ S.len.region
          by (inl e) = e
          by (inr (z, l, e)) = absurd (omega (arith, before z l, e, ea, s.ordered, some_size S laid z l.1))
