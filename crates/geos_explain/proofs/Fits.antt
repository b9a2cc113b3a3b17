-- A row lacks nothing exactly if it fits.
use Rattle.std.proofs.Common.{◌≡◌, ◌<◌, ◌≤◌, ℕ, zero, suc, Bool, true, false, cond, List, [], ◌∷◌, Option, Some, None, length, get_or, replicate, refl, sym, ap, ◌∙◌, arith}
use Rattle.std.specs.Prelude.{◌&&◌, ◌↔◌, nat_le, ◌==◌}
use Rattle.geos_explain.proofs.Below.{and_parts, eqb-true, nat_tests, Row, Pointer, SlotState, Empty, Mem, Vm, Db, zip2, all2, is_shaped, slot_fits, pointer_fits, pair_fits}
use Rattle.geos_explain.specs.Lacks.{lacking_bound, lacking_slot, lacking_pointer, lacking_pair, is_held_unwanted, LacksNothingWhereItFits}

-- ---- Lists and tests, by index

-- a property holds of each number below one
abbrev pub Each : ℕ → (ℕ → Type 0) → Type 0
Each n P = (k : ℕ) → k < n → P k

same-within : {X : Type 0} (d e : X) (n k : ℕ) → k < n → get_or (replicate n d) k e ≡ d
same-within d e zero k lt = absurd (omega arith)
same-within d e (suc n) zero lt = refl
same-within d e (suc n) (suc k) lt = same-within d e n k (omega arith)

same-of : {X : Type 0} (xs : List X) (d e : X) (n : ℕ) → length xs ≡ n → Each n (λ k. get_or xs k e ≡ d) → xs ≡ replicate n d
same-of [] d e zero long each = refl
same-of [] d e (suc n) long each = absurd (omega arith)
same-of (x ∷ xs) d e zero long each = absurd (omega arith)
same-of (x ∷ xs) d e (suc n) long each =
    let first : x ≡ d = each zero (omega arith) in
    let rest = same-of xs d e n (omega arith) (λ k lt. each (suc k) (omega arith)) in
    rw (first, rest) refl

-- a list has the same element n times exactly if it is the element at each index
pub same-each : {X : Type 0} (xs : List X) (d e : X) (n : ℕ) → length xs ≡ n → (xs ≡ replicate n d) ↔ Each n (λ k. get_or xs k e ≡ d)
same-each xs d e n long = (λ same k lt. ap (λ ys. get_or ys k e) same ∙ same-within d e n k lt, same-of xs d e n long)

-- if a test holds of two lists, it holds at an index
test-at : {X Y : Type 0} (test : X → Y → Bool) (xs : List X) (ys : List Y) (d : X) (e : Y) (k : ℕ) → all2 test xs ys ≡ true
    → k < length xs → test (get_or xs k d) (get_or ys k e) ≡ true
test-at test [] ys d e k all lt = absurd (omega arith)
test-at test (x ∷ xs) [] d e k all lt = absurd cc
test-at test (x ∷ xs) (y ∷ ys) d e zero all lt = (and_parts (test x y) (all2 test xs ys) all).0
test-at test (x ∷ xs) (y ∷ ys) d e (suc k) all lt = test-at test xs ys d e k ((and_parts (test x y) (all2 test xs ys) all).1) (omega arith)

-- if it holds at each index, it holds of the lists
test-of : {X Y : Type 0} (test : X → Y → Bool) (xs : List X) (ys : List Y) (d : X) (e : Y) → length xs ≡ length ys
    → Each (length xs) (λ k. test (get_or xs k d) (get_or ys k e) ≡ true) → all2 test xs ys ≡ true
test-of test [] [] d e same each = refl
test-of test [] (y ∷ ys) d e same each = absurd (omega arith)
test-of test (x ∷ xs) [] d e same each = absurd (omega arith)
test-of test (x ∷ xs) (y ∷ ys) d e same each =
    let first : test x y ≡ true = each zero (omega arith) in
    let rest = test-of test xs ys d e (omega arith) (λ k lt. each (suc k) (omega arith)) in
    rw (first, rest) refl

-- a property that holds at each index exactly if a test does, holds everywhere exactly if the test holds of the lists
pub each-tests : {X Y : Type 0} (P : ℕ → Type 0) (test : X → Y → Bool) (xs : List X) (ys : List Y) (d : X) (e : Y) (n : ℕ) → length xs ≡ n
    → length ys ≡ n → Each n (λ k. P k ↔ (test (get_or xs k d) (get_or ys k e) ≡ true)) → Each n P ↔ (all2 test xs ys ≡ true)
each-tests P test xs ys d e n long same is = (
  λ each. test-of test xs ys d e (omega arith) (λ k lt. (is k (omega arith)).0 (each k (omega arith))),
  λ all k lt. (is k lt).1 (test-at test xs ys d e k all (omega arith)),
)

-- an operation on two lists, at an index
zip2-get : {X : Type 0} (f : X → X → X) (xs ys : List X) (d : X) (k : ℕ) → length xs ≡ length ys → k < length xs
    → get_or (zip2 f xs ys) k d ≡ f (get_or xs k d) (get_or ys k d)
zip2-get f [] ys d k same lt = absurd (omega arith)
zip2-get f (x ∷ xs) [] d k same lt = absurd (omega arith)
zip2-get f (x ∷ xs) (y ∷ ys) d zero same lt = refl
zip2-get f (x ∷ xs) (y ∷ ys) d (suc k) same lt = zip2-get f xs ys d k (omega arith) (omega arith)

zip2-length : {X : Type 0} (f : X → X → X) (xs ys : List X) → length xs ≡ length ys → length (zip2 f xs ys) ≡ length xs
zip2-length f [] ys same = refl
zip2-length f (x ∷ xs) [] same = absurd (omega arith)
zip2-length f (x ∷ xs) (y ∷ ys) same = ap suc (zip2-length f xs ys (omega arith))

-- the operation returns the same element n times exactly if it does so at each index
pub zip-each : {X : Type 0} (f : X → X → X) (xs ys : List X) (d e : X) (n : ℕ) → length xs ≡ n → length ys ≡ n
    → (zip2 f xs ys ≡ replicate n d) ↔ Each n (λ k. f (get_or xs k e) (get_or ys k e) ≡ d)
zip-each f xs ys d e n long same =
    let each = same-each (zip2 f xs ys) d e n (zip2-length f xs ys (omega arith) ∙ long) in (
      λ is k lt. sym (zip2-get f xs ys e k (omega arith) (omega arith)) ∙ each.0 is k lt,
      λ all. each.1 (λ k lt. zip2-get f xs ys e k (omega arith) (omega arith) ∙ all k lt),
    )

-- and exactly if a test holds of the lists
zip-tests : {X : Type 0} (f : X → X → X) (test : X → X → Bool) (xs ys : List X) (d e : X) (n : ℕ) → length xs ≡ n → length ys ≡ n
    → Each n (λ k. (f (get_or xs k e) (get_or ys k e) ≡ d) ↔ (test (get_or xs k e) (get_or ys k e) ≡ true))
    → (zip2 f xs ys ≡ replicate n d) ↔ (all2 test xs ys ≡ true)
zip-tests f test xs ys d e n long same is =
    let each = zip-each f xs ys d e n long same in
    let tests = each-tests (λ k. f (get_or xs k e) (get_or ys k e) ≡ d) test xs ys e e n long same is in
    (λ all. tests.0 (each.0 all), λ all. each.1 (tests.1 all))

-- ---- The missing items

-- a choice by a test is `none` exactly if the test is true, given that `wanted` is another value if the test is false
chosen : {X : Type 0} (b : Bool) (none wanted : X) → (b ≡ false → wanted ≡ none → ⊥) → (cond b none wanted ≡ none) ↔ (b ≡ true)
chosen true none wanted named = (λ same. refl, λ so. refl)
chosen false none wanted named = (λ same. absurd (named refl same), λ so. absurd cc)

-- no bound is missing exactly if the known bound implies the required one
bound-kept : (known wanted : ℕ) → known ≤ 65535 → (lacking_bound known wanted ≡ 65535) ↔ (nat_le known wanted ≡ true)
bound-kept known wanted most = chosen (nat_le known wanted) 65535 wanted (λ not_so same. named not_so same)
  where
    named : nat_le known wanted ≡ false → wanted ≡ 65535 → ⊥
    named not_so same =
        let below : wanted < known = grind (arith, nat_tests) in
        omega arith

-- no pair is missing exactly if the known pair meets the required one
pair-met : (known wanted : Bool) → (lacking_pair known wanted ≡ false) ↔ (pair_fits known wanted ≡ true)
pair-met true wanted = (λ none. refl, λ fit. refl)
pair-met false false = (λ none. refl, λ fit. refl)
pair-met false true = (λ none. absurd cc, λ fit. absurd cc)

-- a pointer
pointer-met : (known wanted : Option Pointer) → (lacking_pointer known wanted ≡ None) ↔ (pointer_fits known wanted ≡ true)
pointer-met known None = (λ none. refl, λ fit. refl)
pointer-met known (Some q) = chosen (pointer_fits known (Some q)) None (Some q) (λ not_so same. absurd cc)

-- and a slot
abbrev IsMet : SlotState → SlotState → Type 0
IsMet known wanted = ((lacking_slot known wanted ≡ Empty) × (is_held_unwanted known wanted ≡ false)) ↔ (slot_fits known wanted ≡ true)

held-met : (known wanted : SlotState) → is_held_unwanted known wanted ≡ false → (wanted ≡ Empty → ⊥) → IsMet known wanted
held-met known wanted held named =
    let met = chosen (slot_fits known wanted) Empty wanted (λ not_so none. named none) in
    (λ none. met.0 none.0, λ fit. (met.1 fit, held))

slot-met : (known wanted : SlotState) → IsMet known wanted
slot-met Empty Empty = (λ none. refl, λ fit. (refl, refl))
slot-met Mem Empty = (λ none. (let held = none.1 in absurd cc), λ fit. absurd cc)
slot-met (Vm a c) Empty = (λ none. (let held = none.1 in absurd cc), λ fit. absurd cc)
slot-met (Db a) Empty = (λ none. (let held = none.1 in absurd cc), λ fit. absurd cc)
slot-met known Mem = held-met known Mem refl (λ none. cc)
slot-met known (Vm b c) = held-met known (Vm b c) refl (λ none. cc)
slot-met known (Db b) = held-met known (Db b) refl (λ none. cc)

-- how long the lists of a row are
pub record HasLengths (row : Row) : Type 0 where
  pub bounds : length row.bounds ≡ 8
  pub slots : length row.slots ≡ 4
  pub pointers : length row.pointers ≡ 4
  pub pairs : length row.pairs ≡ 6

pub lengths : (row : Row) → is_shaped row ≡ true → HasLengths row
lengths row shaped =
    let pairs = and_parts (length row.bounds == 8 && length row.slots == 4 && length row.pointers == 4) (length row.pairs == 6) shaped in
    let pointers = and_parts (length row.bounds == 8 && length row.slots == 4) (length row.pointers == 4) pairs.0 in
    let slots = and_parts (length row.bounds == 8) (length row.slots == 4) pointers.0 in
    record {
      bounds = eqb-true _ _ slots.0;
      slots = eqb-true _ _ slots.1;
      pointers = eqb-true _ _ pointers.1;
      pairs = eqb-true _ _ pairs.1;
    }

pub lacks_nothing : LacksNothingWhereItFits
lacks_nothing known wanted shaped shaped_wanted words = (
  λ none.
      let items = none.items in
      rw (
        b.0 (ap (λ (row : Row). row.bounds) items),
        s.0 (λ k lt. (slots_open.0 (ap (λ (row : Row). row.slots) items) k lt, none.slots k lt)),
        p.0 (ap (λ (row : Row). row.pointers) items),
        q.0 (ap (λ (row : Row). row.pairs) items),
      ) refl,
  λ fit.
      let fourth = and_parts (all2 nat_le known.bounds wanted.bounds && all2 slot_fits known.slots wanted.slots
      && all2 pointer_fits known.pointers wanted.pointers) (all2 pair_fits known.pairs wanted.pairs) fit in
      let third = and_parts (all2 nat_le known.bounds wanted.bounds && all2 slot_fits known.slots wanted.slots)
      (all2 pointer_fits known.pointers wanted.pointers) fourth.0 in
      let first = and_parts (all2 nat_le known.bounds wanted.bounds) (all2 slot_fits known.slots wanted.slots) third.0 in
      let met = s.1 first.1 in
      record {
        items = rw (b.1 first.0, slots_open.1 (λ k lt. (met k lt).0), p.1 third.1, q.1 fourth.1) refl;
        slots = λ k lt. (met k lt).1;
      },
)
  where
    has : HasLengths known
    has = lengths known shaped

    wants : HasLengths wanted
    wants = lengths wanted shaped_wanted

    b : (zip2 lacking_bound known.bounds wanted.bounds ≡ replicate 8 65535) ↔ (all2 nat_le known.bounds wanted.bounds ≡ true)
    b = zip-tests lacking_bound nat_le known.bounds wanted.bounds 65535 0 8 has.bounds wants.bounds
        (λ k lt. bound-kept (get_or known.bounds k 0) (get_or wanted.bounds k 0) (words k))

    slots_open : (zip2 lacking_slot known.slots wanted.slots ≡ replicate 4 Empty)
        ↔ Each 4 (λ k. lacking_slot (get_or known.slots k Empty) (get_or wanted.slots k Empty) ≡ Empty)
    slots_open = zip-each lacking_slot known.slots wanted.slots Empty Empty 4 has.slots wants.slots

    s : Each 4 (λ k. (lacking_slot (get_or known.slots k Empty) (get_or wanted.slots k Empty) ≡ Empty)
        × (is_held_unwanted (get_or known.slots k Empty) (get_or wanted.slots k Empty) ≡ false))
        ↔ (all2 slot_fits known.slots wanted.slots ≡ true)
    s = each-tests (λ k. (lacking_slot (get_or known.slots k Empty) (get_or wanted.slots k Empty) ≡ Empty)
        × (is_held_unwanted (get_or known.slots k Empty) (get_or wanted.slots k Empty) ≡ false)) slot_fits known.slots wanted.slots Empty Empty 4
        has.slots wants.slots (λ k lt. slot-met (get_or known.slots k Empty) (get_or wanted.slots k Empty))

    p : (zip2 lacking_pointer known.pointers wanted.pointers ≡ replicate 4 None) ↔ (all2 pointer_fits known.pointers wanted.pointers ≡ true)
    p = zip-tests lacking_pointer pointer_fits known.pointers wanted.pointers None None 4 has.pointers wants.pointers
        (λ k lt. pointer-met (get_or known.pointers k None) (get_or wanted.pointers k None))

    q : (zip2 lacking_pair known.pairs wanted.pairs ≡ replicate 6 false) ↔ (all2 pair_fits known.pairs wanted.pairs ≡ true)
    q = zip-tests lacking_pair pair_fits known.pairs wanted.pairs false false 6 has.pairs wants.pairs
        (λ k lt. pair-met (get_or known.pairs k false) (get_or wanted.pairs k false))
