-- That packing a stretch makes the room that was counted.
use Rattle.std.proofs.Common.{◌≡◌, ◌≢◌, ℕ, ◌+◌, ◌≤◌, ◌<◌, ◌⊎◌, length, slice_index_or, Option, Some, None, refl, ap, sym, ◌∙◌, arith, inl, inr}
use Rattle.std.proofs.lemmas.Bool.{cases_eq, cases_lt}
use Rattle.block_handles.specs.declared.room.Gap.{Gap}
use Rattle.block_handles.specs.Store.{Block, Store, block_at, bytes_in, locks_in, IsBlock, IsThere, size_of, locks_of, place_of, end_of, slot_count}
use Rattle.block_handles.specs.Change.{LockedStay}
use Rattle.block_handles.specs.Gap.{MakesRoom}
use Rattle.block_handles.specs.Layout.{Apart, IsFree, IsFreeBut, IsLaidOut}
use Rattle.block_handles.specs.Packing.{CanPack, Moves, IsRoomy}
use Rattle.block_handles.specs.Stretch.{total, only_in, sum_in, unlocked_size}
use Rattle.block_handles.proofs.Packs.{size_along}
use Rattle.block_handles.proofs.Passing.{only_same}
use Rattle.block_handles.proofs.Sums.{total-same, total-both, in_range, off_range, no_weight, unlocked-but, unlocked-other, unlocked-none}

locks_along : (S S' : Store) → S'.blocks ≡ S.blocks → (j : ℕ) → locks_of S' j ≡ locks_of S j
locks_along S S' e j = ap (λ bs. locks_in (slice_index_or bs j None)) e

none_locked : (b : Option Block) → (IsBlock b → ⊥) → locks_in b ≡ 0
none_locked None h = refl
none_locked (Some b) h = absurd (h tt)

none_sized : (b : Option Block) → (IsBlock b → ⊥) → length (bytes_in b) ≡ 0
none_sized None h = refl
none_sized (Some b) h = absurd (h tt)

-- locked blocks stay if packing moves only unlocked blocks
moves-stay : (old new : Store) (but from until low high : ℕ) → Moves old new from until low high → LockedStay old new but
moves-stay old new but from until low high m j ne locked = by (m.moved j)
  where
    by : (place_of new j ≡ place_of old j) ⊎ ((from ≤ place_of old j) × (end_of old j ≤ until) × (locks_of old j ≡ 0)
        × (low ≤ place_of new j) × (end_of new j ≤ high)) → place_of new j ≡ place_of old j
    by (inl q) = q
    by (inr q) = absurd (omega (arith, q.2, locked))

-- a block off the range keeps its place
moves-off : (old new : Store) (from until low high j : ℕ) → Moves old new from until low high → 0 < size_of old j
    → (end_of old j ≤ from) ⊎ (until ≤ place_of old j) → place_of new j ≡ place_of old j
moves-off old new from until low high j m some off = by (m.moved j) off
  where
    by : (place_of new j ≡ place_of old j) ⊎ ((from ≤ place_of old j) × (end_of old j ≤ until) × (locks_of old j ≡ 0)
        × (low ≤ place_of new j) × (end_of new j ≤ high)) → (end_of old j ≤ from) ⊎ (until ≤ place_of old j) → place_of new j ≡ place_of old j
    by (inl q) o = q
    by (inr q) (inl o) = absurd (omega (arith, q.0, o, some))
    by (inr q) (inr o) = absurd (omega (arith, q.1, o, some))

module _ (S : Store) (laid : IsLaidOut S) (slot size from until room : ℕ) (r : IsRoomy S slot from until room) where
  module _ (enough : size ≤ room) where
    -- the slot has no block in the stretch
    module _ (off : (IsThere S slot → ⊥) ⊎ ((place_of S slot < from) ⊎ (until ≤ place_of S slot))) where
      own-off : 0 < size_of S slot → from ≤ place_of S slot → end_of S slot ≤ until → ⊥
      own-off some low high = by off
        where
          by : (IsThere S slot → ⊥) ⊎ ((place_of S slot < from) ⊎ (until ≤ place_of S slot)) → ⊥
          by (inl no_one) = absurd (omega (arith, some, none_sized (block_at S slot) no_one))
          by (inr (inl q)) = absurd (omega (arith, q, low))
          by (inr (inr q)) = absurd (omega (arith, q, high, some))

      own-unlocked : from ≤ place_of S slot → end_of S slot ≤ until → locks_of S slot ≡ 0
      own-unlocked low high = elim (cases_lt 0 (locks_of S slot)) as (λ _. locks_of S slot ≡ 0) [
        | inl locked ↦ absurd (own-off (locked_some locked) low high)
        | inr none ↦ omega arith
      ]
        where
          locked_some : 0 < locks_of S slot → 0 < size_of S slot
          locked_some h = omega (arith, (laid.sized slot (is_block (block_at S slot) h)).0)
            where
              is_block : (b : Option Block) → 0 < locks_in b → IsBlock b
              is_block None q = absurd (omega arith)
              is_block (Some b) q = tt

      pub can-pack : CanPack S from until
      can-pack j = by (r.packs j)
        where
          by : (end_of S j ≤ from) ⊎ ((until ≤ place_of S j) ⊎ ((from ≤ place_of S j) × (end_of S j ≤ until) × ((j ≡ slot) ⊎ (locks_of S j ≡ 0))))
              → (end_of S j ≤ from) ⊎ ((until ≤ place_of S j) ⊎ ((from ≤ place_of S j) × (end_of S j ≤ until) × (locks_of S j ≡ 0)))
          by (inl q) = inl q
          by (inr (inl q)) = inr (inl q)
          by (inr (inr (a, b, inl e))) =
              inr (inr (a, b, ap (locks_of S) e ∙ own-unlocked (omega (arith, a, ap (place_of S) e)) (omega (arith, b, ap (end_of S) e))))
          by (inr (inr (a, b, inr z))) = inr (inr (a, b, z))

      sums : sum_in S from until (size_of S) ≡ sum_in S from until (unlocked_size S slot)
      sums = total-same (slot_count S) (only_in S from until (size_of S)) (only_in S from until (unlocked_size S slot)) each
        where
          weigh : (j : ℕ) → 0 < size_of S j
              → (end_of S j ≤ from) ⊎ ((until ≤ place_of S j) ⊎ ((from ≤ place_of S j) × (end_of S j ≤ until) × (locks_of S j ≡ 0)))
              → only_in S from until (size_of S) j ≡ only_in S from until (unlocked_size S slot) j
          weigh j some (inl q) = off_range S from until (size_of S) j (inl (omega (arith, q, some)))
              ∙ sym (off_range S from until (unlocked_size S slot) j (inl (omega (arith, q, some))))
          weigh j some (inr (inl q)) = off_range S from until (size_of S) j (inr (omega (arith, q, some)))
              ∙ sym (off_range S from until (unlocked_size S slot) j (inr (omega (arith, q, some))))
          weigh j some (inr (inr (a, b, z))) = elim (cases_eq j slot) as
              (λ _. only_in S from until (size_of S) j ≡ only_in S from until (unlocked_size S slot) j) [
                | inl e ↦ absurd (own-off (omega (arith, some, ap (size_of S) e)) (omega (arith, a, ap (place_of S) e))
                    (omega (arith, b, ap (end_of S) e)))
                | inr ne ↦ in_range S from until (size_of S) j a b ∙ sym (unlocked-other S slot j ne z)
                    ∙ sym (in_range S from until (unlocked_size S slot) j a b)
              ]

          each : (j : ℕ) → only_in S from until (size_of S) j ≡ only_in S from until (unlocked_size S slot) j
          each j = elim (cases_lt 0 (size_of S j)) as (λ _. only_in S from until (size_of S) j ≡ only_in S from until (unlocked_size S slot) j) [
            | inl some ↦ weigh j some (can-pack j)
            | inr none ↦ let z : size_of S j ≡ 0 = omega arith in no_weight S from until (size_of S) j z
                ∙ sym (no_weight S from until (unlocked_size S slot) j (unlocked-none S slot j z))
          ]

      pub packed-room : (new : Store) (at : ℕ) → Moves S new from until from at → IsFree new at until
          → at ≡ from + sum_in S from until (size_of S) → (gap : Gap) → gap ≡ record { at = at; end = until } → MakesRoom S new slot size gap
      packed-room new at m free is gap e =
          let a : gap.at ≡ at = ap (λ g. g.at) e in
          let b : gap.end ≡ until = ap (λ g. g.end) e in
          record {
            blocks = m.blocks;
            len = m.len;
            laid = m.laid;
            stay = moves-stay S new slot from until from at m;
            own = own-place (m.moved slot);
            room = omega (arith, a, b, is, sums, r.fits, enough);
            inside = omega (arith, b, r.inside, ap (λ l. l.region) m.len);
            free = λ j ne. rw (a, b) (free j);
          }
        where
          own-place : (place_of new slot ≡ place_of S slot) ⊎ ((from ≤ place_of S slot) × (end_of S slot ≤ until)
              × (locks_of S slot ≡ 0) × (from ≤ place_of new slot) × (end_of new slot ≤ at)) → place_of new slot ≡ place_of S slot
          own-place (inl q) = q
          own-place (inr q) = elim (cases_lt 0 (size_of S slot)) as (λ _. place_of new slot ≡ place_of S slot) [
            | inl some ↦ absurd (own-off some q.0 q.1)
            | inr none ↦ let z : size_of S slot ≡ 0 = omega arith in m.laid.none slot (size_along S new m.blocks slot ∙ z) ∙ sym (laid.none slot z)
          ]

    -- the slot's block lies in the stretch
    module _ (there : IsThere S slot) (low : from ≤ place_of S slot) (high : place_of S slot < until) where
      some : 0 < size_of S slot
      some = omega (arith, (laid.sized slot there).0)

      ends : end_of S slot ≤ until
      ends = by (r.packs slot)
        where
          by : (end_of S slot ≤ from) ⊎ ((until ≤ place_of S slot) ⊎ ((from ≤ place_of S slot) × (end_of S slot ≤ until)
              × ((slot ≡ slot) ⊎ (locks_of S slot ≡ 0)))) → end_of S slot ≤ until
          by (inl q) = absurd (omega (arith, q, low, some))
          by (inr (inl q)) = absurd (omega (arith, q, high))
          by (inr (inr q)) = q.1

      unlocked : (j : ℕ) → j ≢ slot → (j ≡ slot) ⊎ (locks_of S j ≡ 0) → locks_of S j ≡ 0
      unlocked j ne (inl e) = absurd (ne e)
      unlocked j ne (inr z) = z

      pub below-range : (from ≤ place_of S slot) × (place_of S slot ≤ S.len.region)
      below-range = (low, omega (arith, high, r.inside))

      pub below-pack : CanPack S from (place_of S slot)
      below-pack j = elim (cases_eq j slot) as
          (λ _. (end_of S j ≤ from) ⊎ ((place_of S slot ≤ place_of S j) ⊎ ((from ≤ place_of S j) × (end_of S j ≤ place_of S slot)
          × (locks_of S j ≡ 0)))) [
            | inl e ↦ inr (inl (omega (arith, ap (place_of S) e)))
            | inr ne ↦ by ne (laid.apart j slot ne) (r.packs j)
          ]
        where
          by : j ≢ slot → Apart S j slot
              → (end_of S j ≤ from) ⊎ ((until ≤ place_of S j) ⊎ ((from ≤ place_of S j) × (end_of S j ≤ until) × ((j ≡ slot) ⊎ (locks_of S j ≡ 0))))
              → (end_of S j ≤ from) ⊎ ((place_of S slot ≤ place_of S j) ⊎ ((from ≤ place_of S j) × (end_of S j ≤ place_of S slot) × (locks_of S j ≡ 0)))
          by ne ap' (inl q) = inl q
          by ne ap' (inr (inl q)) = inr (inl (omega (arith, q, high)))
          by ne (inl p) (inr (inr (a, b, c))) = inr (inr (a, p, unlocked j ne c))
          by ne (inr p) (inr (inr (a, b, c))) = inr (inl (omega (arith, p)))

      module _ (mid : Store) (at : ℕ) (m : Moves S mid from (place_of S slot) from at) (free : IsFree mid at (place_of S slot))
          (is : at ≡ from + sum_in S from (place_of S slot) (size_of S)) (inside : (from ≤ at) × (at ≤ place_of S slot)) where
        own-mid : place_of mid slot ≡ place_of S slot
        own-mid = moves-off S mid from (place_of S slot) from at slot m some (inr (omega arith))

        sizes : (j : ℕ) → size_of mid j ≡ size_of S j
        sizes = size_along S mid m.blocks

        pub above-range : (end_of S slot ≤ until) × (until ≤ mid.len.region)
        above-range = (ends, omega (arith, r.inside, ap (λ l. l.region) m.len))

        pub above-pack : CanPack mid (end_of S slot) until
        above-pack j = elim (cases_eq j slot) as
            (λ _. (end_of mid j ≤ end_of S slot) ⊎
            ((until ≤ place_of mid j) ⊎ ((end_of S slot ≤ place_of mid j) × (end_of mid j ≤ until) × (locks_of mid j ≡ 0)))) [
              | inl e ↦ inl (omega (arith, ap (end_of mid) e, own-mid, sizes slot))
              | inr ne ↦ by ne (m.moved j) (laid.apart j slot ne) (r.packs j)
            ]
          where
            by : j ≢ slot → (place_of mid j ≡ place_of S j) ⊎ ((from ≤ place_of S j) × (end_of S j ≤ place_of S slot)
                × (locks_of S j ≡ 0) × (from ≤ place_of mid j) × (end_of mid j ≤ at)) → Apart S j slot
                → (end_of S j ≤ from) ⊎ ((until ≤ place_of S j) ⊎ ((from ≤ place_of S j) × (end_of S j ≤ until) × ((j ≡ slot) ⊎ (locks_of S j ≡ 0))))
                → (end_of mid j ≤ end_of S slot) ⊎
                ((until ≤ place_of mid j) ⊎ ((end_of S slot ≤ place_of mid j) × (end_of mid j ≤ until) × (locks_of mid j ≡ 0)))
            by ne (inr q) p o = inl (omega (arith, q.4, inside.1))
            by ne (inl e) (inl p) o = inl (omega (arith, e, sizes j, p))
            by ne (inl e) (inr p) (inl o) = inl (omega (arith, e, sizes j, o, low))
            by ne (inl e) (inr p) (inr (inl o)) = inr (inl (omega (arith, e, o)))
            by ne (inl e) (inr p) (inr (inr (a, b, c))) =
                inr (inr (omega (arith, e, p), omega (arith, e, sizes j, b), locks_along S mid m.blocks j ∙ unlocked j ne c))

        module _ (new : Store) (end : ℕ) (n : Moves mid new (end_of S slot) until end until) (left : IsFree new (end_of S slot) end)
            (goes : end + sum_in mid (end_of S slot) until (size_of mid) ≡ until) (within : (end_of S slot ≤ end) × (end ≤ until)) where
          own-new : place_of new slot ≡ place_of S slot
          own-new = moves-off mid new (end_of S slot) until end until slot n (omega (arith, sizes slot, some))
              (inl (omega (arith, own-mid, sizes slot))) ∙ own-mid

          sizes-new : (j : ℕ) → size_of new j ≡ size_of S j
          sizes-new j = size_along mid new n.blocks j ∙ sizes j

          clear : IsFreeBut new slot at end
          clear j ne = by (n.moved j) (free j) (left j) (n.laid.apart j slot ne)
            where
              dead : size_of new j ≡ 0 → (end_of new j ≤ at) ⊎ (end ≤ place_of new j)
              dead z = inl (omega (arith, z, n.laid.none j z))

              by : (place_of new j ≡ place_of mid j) ⊎ ((end_of S slot ≤ place_of mid j) × (end_of mid j ≤ until)
                  × (locks_of mid j ≡ 0) × (end ≤ place_of new j) × (end_of new j ≤ until))
                  → (end_of mid j ≤ at) ⊎ (place_of S slot ≤ place_of mid j) → (end_of new j ≤ end_of S slot) ⊎ (end ≤ place_of new j)
                  → Apart new j slot → (end_of new j ≤ at) ⊎ (end ≤ place_of new j)
              by m' f (inr q) a = inr q
              by (inr q) f l a = inr q.3
              by (inl e) (inl f) l a = inl (omega (arith, e, f, size_along mid new n.blocks j))
              by (inl e) (inr f) (inl l) (inl a) = dead (omega (arith, e, f, a, own-new))
              by (inl e) (inr f) (inl l) (inr a) = dead (omega (arith, l, a, own-new, sizes-new slot))

          above-sum : sum_in mid (end_of S slot) until (size_of mid) ≡ sum_in S (end_of S slot) until (size_of S)
          above-sum = total-count
            where
              each : (j : ℕ) → (place_of mid j ≡ place_of S j) ⊎ ((from ≤ place_of S j) × (end_of S j ≤ place_of S slot)
                  × (locks_of S j ≡ 0) × (from ≤ place_of mid j) × (end_of mid j ≤ at))
                  → only_in mid (end_of S slot) until (size_of mid) j ≡ only_in S (end_of S slot) until (size_of S) j
              each j (inl e) = only_same mid S (end_of S slot) until (end_of S slot) until (size_of mid) (size_of S) j
                  (sizes j) (λ q. (omega (arith, q.0, e), omega (arith, q.1, e, sizes j)))
                  (λ q. (omega (arith, q.0, e), omega (arith, q.1, e, sizes j)))
              each j (inr m') = only_same mid S (end_of S slot) until (end_of S slot) until (size_of mid) (size_of S) j
                  (sizes j) (λ q. absurd (omega (arith, q.0, m'.4, inside.1, some))) (λ q. absurd (omega (arith, q.0, m'.1, some)))

              total-count : sum_in mid (end_of S slot) until (size_of mid) ≡ sum_in S (end_of S slot) until (size_of S)
              total-count = total-same (slot_count mid) (only_in mid (end_of S slot) until (size_of mid))
                  (only_in S (end_of S slot) until (size_of S)) (λ j. each j (m.moved j))
                  ∙ ap (λ k. total k (only_in S (end_of S slot) until (size_of S))) (ap length m.blocks)

          both : sum_in S from (place_of S slot) (size_of S) + sum_in S (end_of S slot) until (size_of S) ≡ sum_in S from until (unlocked_size S slot)
          both = total-both (slot_count S) below above all each
            where
              below : ℕ → ℕ
              below = only_in S from (place_of S slot) (size_of S)

              above : ℕ → ℕ
              above = only_in S (end_of S slot) until (size_of S)

              all : ℕ → ℕ
              all = only_in S from until (unlocked_size S slot)

              each : (j : ℕ) → only_in S from (place_of S slot) (size_of S) j + only_in S (end_of S slot) until
                  (size_of S) j ≡ only_in S from until (unlocked_size S slot) j
              each j = elim (cases_lt 0 (size_of S j)) as (λ _. below j + above j ≡ all j) [
                | inr none ↦ let z : size_of S j ≡ 0 = omega arith in
                    omega (
                      arith,
                      no_weight S from (place_of S slot) (size_of S) j z,
                      no_weight S (end_of S slot) until
                          (size_of S) j z,
                      no_weight S from until (unlocked_size S slot) j (unlocked-none S slot j z),
                    )
                | inl has ↦ elim (cases_eq j slot) as (λ _. below j + above j ≡ all j) [
                  | inl e ↦ omega (
                    arith,
                    off_range S from (place_of S slot) (size_of S) j (inr (omega (arith, has, ap (place_of S) e))),
                    off_range S (end_of S slot) until (size_of S) j (inl (omega (arith, some, ap (place_of S) e))),
                    no_weight S from until (unlocked_size S slot) j (unlocked-but S slot j e),
                  )
                  | inr ne ↦ by has ne (laid.apart j slot ne) (r.packs j)
                ]
              ]
                where
                  by : 0 < size_of S j → j ≢ slot → Apart S j slot
                      → (end_of S j ≤ from) ⊎ ((until ≤ place_of S j) ⊎ ((from ≤ place_of S j) × (end_of S j ≤ until)
                      × ((j ≡ slot) ⊎ (locks_of S j ≡ 0)))) → below j + above j ≡ all j
                  by has ne (inl p) (inl q) =
                      omega (
                        arith,
                        off_range S (end_of S slot) until (size_of S) j (inl (omega (arith, has, p))),
                        off_range S from (place_of S slot) (size_of S) j (inl (omega (arith, has, q))),
                        off_range S from until (unlocked_size S slot) j (inl (omega (arith, has, q))),
                      )
                  by has ne (inl p) (inr (inl q)) = absurd (omega (arith, p, q, has, high))
                  by has ne (inl p) (inr (inr (a, b, c))) =
                      omega (
                        arith,
                        off_range S (end_of S slot) until (size_of S) j (inl (omega (arith, has, p))),
                        in_range S from (place_of S slot) (size_of S) j a p,
                        in_range S from until (unlocked_size S slot) j a b,
                        unlocked-other S slot j ne (unlocked j ne c),
                      )
                  by has ne (inr p) (inl q) = absurd (omega (arith, p, q, has, low))
                  by has ne (inr p) (inr (inl q)) =
                      omega (
                        arith,
                        off_range S from (place_of S slot) (size_of S) j (inr (omega (arith, has, p))),
                        off_range S (end_of S slot) until (size_of S) j (inr (omega (arith, has, q))),
                        off_range S from until (unlocked_size S slot) j (inr (omega (arith, has, q))),
                      )
                  by has ne (inr p) (inr (inr (a, b, c))) =
                      omega (
                        arith,
                        off_range S from (place_of S slot) (size_of S) j (inr (omega (arith, has, p))),
                        in_range S (end_of S slot) until (size_of S) j p b,
                        in_range S from until (unlocked_size S slot) j a b,
                        unlocked-other S slot j ne (unlocked j ne c),
                      )

          pub around-room : (gap : Gap) → gap ≡ record { at = at; end = end } → MakesRoom S new slot size gap
          around-room gap e =
              let a : gap.at ≡ at = ap (λ g. g.at) e in
              let b : gap.end ≡ end = ap (λ g. g.end) e in
              record {
                blocks = n.blocks ∙ m.blocks;
                len = n.len ∙ m.len;
                laid = n.laid;
                stay = λ j ne locked. moves-stay mid new slot (end_of S slot) until end until n j ne
                    (omega (arith, locked, locks_along S mid m.blocks j)) ∙ moves-stay S mid slot from (place_of S slot) from at m j ne locked;
                own = own-new;
                room = omega (arith, a, b, is, goes, above-sum, both, r.fits, enough);
                inside = omega (arith, b, within.1, r.inside, ap (λ l. l.region) n.len, ap (λ l. l.region) m.len);
                free = λ j ne. rw (a, b) (clear j ne);
              }
