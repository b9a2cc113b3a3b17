-- How blocks lie after a change of one slot, or of none.
use Rattle.std.proofs.Common.{◌≡◌, ◌≢◌, ℕ, zero, suc, ◌+◌, ◌/◌, ◌≤◌, ◌<◌, ◌⊎◌, List, [], ◌∷◌, length, Option, Some, None, slice_index_or, refl, ap, sym, subst, ◌∙◌, arith, inl, inr}
use Rattle.std.proofs.lemmas.List.{length-set, get_or-set_same, get_or-set_other}
use Rattle.std.proofs.lemmas.Bool.{cases_eq, cases_lt}
use Rattle.block_handles.specs.Store.{Block, Store, block_at, bytes_in, IsBlock, IsThere, size_of, locks_in, locks_of, place_of, end_of, slot_count}
use Rattle.block_handles.specs.declared.arena.Limits.{Limits}
use Rattle.block_handles.specs.Change.{with_block, with_limits, with_place, with_locks, block_with_locks}
use Rattle.block_handles.specs.Layout.{Apart, IsFree, IsFreeBut, IsLaidOut}
use Rattle.geos_terms.specs.Heap.{IsBlockSize}
use Rattle.block_handles.specs.View.{IsIndexed}

block_of_size : (b : Option Block) → 0 < length (bytes_in b) → IsBlock b
block_of_size None h = absurd (omega arith)
block_of_size (Some b) h = tt

-- what has bytes is there
pub there_of_size : (S : Store) (j : ℕ) → 0 < size_of S j → IsThere S j
there_of_size S j h = block_of_size (block_at S j) h

block_of_locks : (b : Option Block) → 0 < locks_in b → IsBlock b
block_of_locks None h = absurd (omega arith)
block_of_locks (Some b) h = tt

-- what is locked is there
pub there_of_locks : (S : Store) (j : ℕ) → 0 < locks_of S j → IsThere S j
there_of_locks S j h = block_of_locks (block_at S j) h

no_block : (b : Option Block) → (IsBlock b → ⊥) → length (bytes_in b) ≡ 0
no_block None h = refl
no_block (Some b) h = absurd (h tt)

pub size_of_none : (S : Store) (j : ℕ) → (IsThere S j → ⊥) → size_of S j ≡ 0
size_of_none S j h = no_block (block_at S j) h

no_locks : (b : Option Block) → (IsBlock b → ⊥) → locks_in b ≡ 0
no_locks None h = refl
no_locks (Some b) h = absurd (h tt)

pub locks_of_none : (S : Store) (j : ℕ) → (IsThere S j → ⊥) → locks_of S j ≡ 0
locks_of_none S j h = no_locks (block_at S j) h

-- two stores differ in only one slot, in which the second has n bytes at p
pub record Differs (S S' : Store) (i n p : ℕ) : Type 0 where
  pub size : size_of S' i ≡ n
  pub place : place_of S' i ≡ p
  pub sizes : (j : ℕ) → j ≢ i → size_of S' j ≡ size_of S j
  pub places : (j : ℕ) → j ≢ i → place_of S' j ≡ place_of S j
  pub there : (j : ℕ) → j ≢ i → IsThere S' j → IsThere S j
  pub slots : slot_count S' ≡ slot_count S
  pub spots : length S'.places ≡ length S.places
  pub len : S'.len.region ≡ S.len.region

pub with_block-differs : (S : Store) (i : ℕ) (b : Option Block) (p : ℕ) → IsLaidOut S → i < 2048
    → Differs S (with_block S i b p) i (length (bytes_in b)) p
with_block-differs S i b p laid small =
    let slot : i < length S.blocks = omega (arith, laid.slots) in
    let spot : i < length S.places = omega (arith, laid.spots) in
    record {
      size = ap (λ x. length (bytes_in x)) (get_or-set_same S.blocks i b None slot);
      place = get_or-set_same S.places i p 0 spot;
      sizes = λ j n. ap (λ x. length (bytes_in x)) (get_or-set_other S.blocks i j b None n);
      places = λ j n. get_or-set_other S.places i j p 0 n;
      there = λ j n h. subst IsBlock (get_or-set_other S.blocks i j b None n) h;
      slots = length-set S.blocks i b;
      spots = length-set S.places i p;
      len = refl;
    }

pub with_place-differs : (S : Store) (i p : ℕ) → IsLaidOut S → i < 2048 → Differs S (with_place S i p) i (size_of S i) p
with_place-differs S i p laid small =
    let spot : i < length S.places = omega (arith, laid.spots) in
    record {
      size = refl;
      place = get_or-set_same S.places i p 0 spot;
      sizes = λ j n. refl;
      places = λ j n. get_or-set_other S.places i j p 0 n;
      there = λ j n h. h;
      slots = refl;
      spots = length-set S.places i p;
      len = refl;
    }

-- the slot there is in use below the table's end
pub there_small : (S : Store) (i : ℕ) → IsLaidOut S → IsThere S i → i < 2048
there_small S i laid h = elim (cases_lt i 2048) as (λ _. i < 2048)
    [ inl lt ↦ lt | inr le ↦ absurd (omega (arith, (laid.sized i h).0, past S.blocks i (omega (arith, laid.slots)))) ]
  where
    past : (bs : List (Option Block)) (i : ℕ) → length bs ≤ i → length (bytes_in (slice_index_or bs i None)) ≡ 0
    past [] i h = refl
    past (b ∷ bs) zero h = absurd (omega arith)
    past (b ∷ bs) (suc i) h = past bs i (omega arith)

-- a slot gets a block where nothing else lies
pub laid-differs : (S S' : Store) (i n p : ℕ) → Differs S S' i n p → IsLaidOut S → p + n ≤ S.len.region → IsFreeBut S i p (p + n)
    → (IsThere S' i → IsBlockSize n) → (n ≡ 0 → p ≡ 0) → IsLaidOut S'
laid-differs S S' i n p d laid fits free legal none = record {
  slots = d.slots ∙ laid.slots;
  spots = d.spots ∙ laid.spots;
  within = λ j. elim (cases_eq j i) as (λ _. end_of S' j ≤ S'.len.region) [
    | inl e ↦ omega (arith, d.len, ap (size_of S') e, ap (place_of S') e, d.size, d.place)
    | inr ne ↦ omega (arith, d.len, d.sizes j ne, d.places j ne, laid.within j)
  ];
  apart = λ j k ne. elim (cases_eq j i) as (λ _. Apart S' j k) [
    | inl e ↦ let nk : k ≢ i = λ z. ne (e ∙ sym z) in apart_from j k e nk
    | inr nj ↦ elim (cases_eq k i) as (λ _. Apart S' j k) [
      | inl e ↦ turn k j (apart_from k j e nj)
      | inr nk ↦ both j k nj nk (laid.apart j k ne)
    ]
  ];
  sized = λ j h. elim (cases_eq j i) as (λ _. IsBlockSize (size_of S' j)) [
    | inl e ↦ subst IsBlockSize (sym (ap (size_of S') e ∙ d.size)) (legal (subst (IsThere S') e h))
    | inr ne ↦ subst IsBlockSize (sym (d.sizes j ne)) (laid.sized j (d.there j ne h))
  ];
  none = λ j z. elim (cases_eq j i) as (λ _. place_of S' j ≡ 0) [
    | inl e ↦ ap (place_of S') e ∙ d.place ∙ none (sym d.size ∙ ap (size_of S') (sym e) ∙ z)
    | inr ne ↦ d.places j ne ∙ laid.none j (sym (d.sizes j ne) ∙ z)
  ];
}
  where
    beside : (j k : ℕ) → j ≡ i → k ≢ i → (end_of S k ≤ p) ⊎ (p + n ≤ place_of S k) → Apart S' j k
    beside j k e nk (inl h) = inr (omega (arith, h, d.sizes k nk, d.places k nk, ap (place_of S') e, d.place))
    beside j k e nk (inr h) = inl (omega (arith, h, d.places k nk, ap (place_of S') e, d.place, ap (size_of S') e, d.size))

    apart_from : (j k : ℕ) → j ≡ i → k ≢ i → Apart S' j k
    apart_from j k e nk = beside j k e nk (free k nk)

    turn : (j k : ℕ) → Apart S' j k → Apart S' k j
    turn j k (inl h) = inr h
    turn j k (inr h) = inl h

    both : (j k : ℕ) → j ≢ i → k ≢ i → Apart S j k → Apart S' j k
    both j k nj nk (inl h) = inl (omega (arith, h, d.sizes j nj, d.places j nj, d.places k nk))
    both j k nj nk (inr h) = inr (omega (arith, h, d.sizes k nk, d.places j nj, d.places k nk))

-- a limit moves no block
pub laid-limits : (S : Store) (limits : Limits) → IsLaidOut S → IsLaidOut (with_limits S limits)
laid-limits S limits laid = record {
  slots = laid.slots;
  spots = laid.spots;
  within = laid.within;
  apart = laid.apart;
  sized = laid.sized;
  none = laid.none;
}

-- a block leaves
pub laid-gone : (S : Store) (i : ℕ) → IsLaidOut S → IsThere S i → IsLaidOut (with_block S i None 0)
laid-gone S i laid there =
    laid-differs S (with_block S i None 0) i 0 0 (with_block-differs S i None 0 laid small) laid (omega arith)
    (λ j ne. inr (omega arith)) (λ h. absurd (not-none h)) (λ z. refl)
  where
    small : i < 2048
    small = there_small S i laid there

    not-none : IsThere (with_block S i None 0) i → ⊥
    not-none h = let slot : i < length S.blocks = omega (arith, small, laid.slots) in subst IsBlock (get_or-set_same S.blocks i None None slot) h

-- every block keeps its place and its size
pub record SameShape (S S' : Store) : Type 0 where
  pub sizes : (j : ℕ) → size_of S' j ≡ size_of S j
  pub places : S'.places ≡ S.places
  pub there : (j : ℕ) → IsThere S' j → IsThere S j
  pub slots : slot_count S' ≡ slot_count S
  pub len : S'.len ≡ S.len

pub same-places : (S S' : Store) → SameShape S S' → (j : ℕ) → place_of S' j ≡ place_of S j
same-places S S' d j = ap (λ ps. slice_index_or ps j 0) d.places

pub same-ends : (S S' : Store) → SameShape S S' → (j : ℕ) → end_of S' j ≡ end_of S j
same-ends S S' d j = λ k. same-places S S' d j k + d.sizes j k

pub laid-same : (S S' : Store) → SameShape S S' → IsLaidOut S → IsLaidOut S'
laid-same S S' d laid = record {
  slots = d.slots ∙ laid.slots;
  spots = ap length d.places ∙ laid.spots;
  within = λ j. omega (arith, ap (λ l. l.region) d.len, same-ends S S' d j, laid.within j);
  apart = λ i j n. moved i j (laid.apart i j n);
  sized = λ j h. subst IsBlockSize (sym (d.sizes j)) (laid.sized j (d.there j h));
  none = λ j z. same-places S S' d j ∙ laid.none j (sym (d.sizes j) ∙ z);
}
  where
    moved : (i j : ℕ) → Apart S i j → Apart S' i j
    moved i j (inl h) = inl (omega (arith, h, same-ends S S' d i, same-places S S' d j))
    moved i j (inr h) = inr (omega (arith, h, same-ends S S' d j, same-places S S' d i))

pub free-same : (S S' : Store) → SameShape S S' → (a b : ℕ) → IsFree S a b → IsFree S' a b
free-same S S' d a b free j = moved (free j)
  where
    moved : (end_of S j ≤ a) ⊎ (b ≤ place_of S j) → (end_of S' j ≤ a) ⊎ (b ≤ place_of S' j)
    moved (inl h) = inl (omega (arith, h, same-ends S S' d j))
    moved (inr h) = inr (omega (arith, h, same-places S S' d j))

pub indexed-same : (S S' : Store) (index : List (Option ℕ)) → SameShape S S' → IsIndexed S index → IsIndexed S' index
indexed-same S S' index d h = record {
  long = h.long ∙ ap (λ l. l.region / 64 + 1) (sym d.len);
  found = λ j some. ap (λ p. slice_index_or index (p / 64) None) (same-places S S' d j) ∙ h.found j (omega (arith, some, d.sizes j));
  real = λ g j is. let r = h.real g j is in (omega (arith, r.0, d.sizes j), ap (λ p. p / 64) (same-places S S' d j) ∙ r.1);
}

pub with_locks-shape : (S : Store) (i n : ℕ) → IsLaidOut S → IsThere S i → SameShape S (with_locks S i n)
with_locks-shape S i n laid h =
    let slot : i < length S.blocks = omega (arith, there_small S i laid h, laid.slots) in
    record {
      sizes = λ j. elim (cases_eq j i) as (λ _. size_of (with_locks S i n) j ≡ size_of S j) [
        | inl q ↦ ap (λ k. size_of (with_locks S i n) k) q
            ∙ ap (λ b. length (bytes_in b)) (get_or-set_same S.blocks i (block_with_locks S i n) None slot) ∙ ap (size_of S) (sym q)
        | inr ne ↦ ap (λ b. length (bytes_in b)) (get_or-set_other S.blocks i j (block_with_locks S i n) None ne)
      ];
      places = refl;
      there = λ j k. elim (cases_eq j i) as (λ _. IsThere S j) [
        | inl q ↦ subst (IsThere S) (sym q) h
        | inr ne ↦ subst IsBlock (get_or-set_other S.blocks i j (block_with_locks S i n) None ne) k
      ];
      slots = length-set S.blocks i (block_with_locks S i n);
      len = refl;
    }
