-- The rows of a public routine have no fault exactly if a caller from outside may enter and leave by them.
use Rattle.std.proofs.Common.{◌≡◌, ◌<◌, ℕ, zero, suc, Bool, true, false, List, [], ◌∷◌, Option, Some, None, length, map, get_or, replicate, refl, ap, ◌∙◌, arith}
use Rattle.std.proofs.lemmas.List.{length-map}
use Rattle.std.specs.Prelude.{◌&&◌, ◌↔◌, ◌||◌, not}
use Rattle.geos_explain.proofs.Below.{list_all, and_parts, get_or-map, Row, Pointer, SlotState, Empty, Mem, Vm, Db, open_row, all2, slot_pairs, each_pair, is_empty, is_stale, may_be_given, may_be_one, may_enter, is_left, may_leave}
use Rattle.geos_explain.specs.Public.{own_only, own_slots, marked_only, marked_slots, differ_held, held_pairs, known_pointers, missing_only, missing_slots, kept_only, kept_slots, NoFaultsWhereItMayEnterAndLeave}
use Rattle.geos_explain.proofs.Fits.{Each, same-each, each-tests, zip-each, HasLengths, lengths}

-- a test of all elements, at an index
all-at : {X : Type 0} (test : X → Bool) (xs : List X) (d : X) (k : ℕ) → list_all test xs ≡ true → k < length xs → test (get_or xs k d) ≡ true
all-at test [] d k all lt = absurd (omega arith)
all-at test (x ∷ xs) d zero all lt = (and_parts (test x) (list_all test xs) all).0
all-at test (x ∷ xs) d (suc k) all lt = all-at test xs d k ((and_parts (test x) (list_all test xs) all).1) (omega arith)

-- and where it holds at each index, it holds of all
all-of : {X : Type 0} (test : X → Bool) (xs : List X) (d : X) → Each (length xs) (λ k. test (get_or xs k d) ≡ true) → list_all test xs ≡ true
all-of test [] d each = refl
all-of test (x ∷ xs) d each =
    let first : test x ≡ true = each zero (omega arith) in
    let rest = all-of test xs d (λ k lt. each (suc k) (omega arith)) in
    rw (first, rest) refl

-- what is so at each index exactly where a test is, is so of all exactly where it holds of all
each-all : {X : Type 0} (P : ℕ → Type 0) (test : X → Bool) (xs : List X) (d : X) → Each (length xs) (λ k. P k ↔ (test (get_or xs k d) ≡ true))
    → Each (length xs) P ↔ (list_all test xs ≡ true)
each-all P test xs d is = (
  λ each. all-of test xs d (λ k lt. (is k lt).0 (each k lt)),
  λ all k lt. (is k lt).1 (all-at test xs d k all lt),
)

-- rows that differ from the open row in slots, in pointers or in pairs only are open exactly where these are
open-slots : (slots : List SlotState) → (record open_row { slots = slots } ≡ open_row) ↔ (slots ≡ replicate 4 Empty)
open-slots slots = (λ same. ap (λ (row : Row). row.slots) same, λ same. rw same refl)

open-pointers : (pointers : List (Option Pointer)) → (record open_row { pointers = pointers } ≡ open_row) ↔ (pointers ≡ replicate 4 None)
open-pointers pointers = (λ same. ap (λ (row : Row). row.pointers) same, λ same. rw same refl)

open-pairs : (pairs : List Bool) → (record open_row { pairs = pairs } ≡ open_row) ↔ (pairs ≡ replicate 6 false)
open-pairs pairs = (λ same. ap (λ (row : Row). row.pairs) same, λ same. rw same refl)

-- two rows of slots are open exactly where a test holds of all slots, if both slots are empty exactly where it holds of that
both-slots : (slots others : List SlotState) (holds : Bool)
    → (slots ≡ replicate 4 Empty) ↔ Each 4 (λ k. get_or slots k Empty ≡ Empty) → (others ≡ replicate 4 Empty) ↔ Each 4 (λ k. get_or others k Empty ≡ Empty)
    → Each 4 (λ k. (get_or slots k Empty ≡ Empty) × (get_or others k Empty ≡ Empty)) ↔ (holds ≡ true)
    → ((record open_row { slots = slots } ≡ open_row) × (record open_row { slots = others } ≡ open_row)) ↔ (holds ≡ true)
both-slots slots others holds each each_other is =
    let first = open-slots slots in
    let second = open-slots others in (
      λ none. is.0 (λ k lt. (each.0 (first.0 none.0) k lt, each_other.0 (second.0 none.1) k lt)),
      λ so. (first.1 (each.1 (λ k lt. (is.1 so k lt).0)), second.1 (each_other.1 (λ k lt. (is.1 so k lt).1))),
    )

-- a slot is not named exactly where it may be given
slot-given : (state : SlotState) → ((own_only state ≡ Empty) × (marked_only state ≡ Empty)) ↔ (may_be_given state ≡ true)
slot-given Empty = (λ none. refl, λ given. (refl, refl))
slot-given Mem = (λ none. (let own = none.0 in absurd cc), λ given. absurd cc)
slot-given (Vm true false) = (λ none. (let own = none.0 in absurd cc), λ given. absurd cc)
slot-given (Vm true true) = (λ none. (let marked = none.1 in absurd cc), λ given. absurd cc)
slot-given (Vm false false) = (λ none. (let own = none.0 in absurd cc), λ given. absurd cc)
slot-given (Vm false true) = (λ none. refl, λ given. (refl, refl))
slot-given (Db a) = (λ none. (let own = none.0 in absurd cc), λ given. absurd cc)

slots-given : (row : Row) → length row.slots ≡ 4
    → ((own_slots row ≡ open_row) × (marked_slots row ≡ open_row)) ↔ (list_all may_be_given row.slots ≡ true)
slots-given row four = both-slots (map own_only row.slots) (map marked_only row.slots) (list_all may_be_given row.slots)
    (same-each (map own_only row.slots) Empty Empty 4 (length-map row.slots own_only ∙ four))
    (same-each (map marked_only row.slots) Empty Empty 4 (length-map row.slots marked_only ∙ four)) (rw four at
    (each-all (λ k. (get_or (map own_only row.slots) k Empty ≡ Empty) × (get_or (map marked_only row.slots) k Empty ≡ Empty))
    may_be_given row.slots Empty (λ k lt. rw (get_or-map own_only row.slots k Empty Empty lt, get_or-map marked_only row.slots k Empty Empty lt)
    (slot-given (get_or row.slots k Empty)))))

-- one that was given, exactly where it is left so
slot-left : (entry exit : SlotState) → may_be_given entry ≡ true
    → ((missing_only entry exit ≡ Empty) × (kept_only entry exit ≡ Empty)) ↔ (is_left entry exit ≡ true)
slot-left Mem exit given = absurd cc
slot-left (Db a) exit given = absurd cc
slot-left (Vm true a) exit given = absurd cc
slot-left (Vm false false) exit given = absurd cc
slot-left Empty Empty given = (λ none. refl, λ left. (refl, refl))
slot-left Empty Mem given = (λ none. (let kept = none.1 in absurd cc), λ left. absurd cc)
slot-left Empty (Vm a b) given = (λ none. (let kept = none.1 in absurd cc), λ left. absurd cc)
slot-left Empty (Db a) given = (λ none. (let kept = none.1 in absurd cc), λ left. absurd cc)
slot-left (Vm false true) Empty given = (λ none. (let missing = none.0 in absurd cc), λ left. absurd cc)
slot-left (Vm false true) Mem given = (λ none. (let missing = none.0 in absurd cc), λ left. absurd cc)
slot-left (Vm false true) (Vm a false) given = (λ none. (let missing = none.0 in absurd cc), λ left. absurd cc)
slot-left (Vm false true) (Vm a true) given = (λ none. refl, λ left. (refl, refl))
slot-left (Vm false true) (Db a) given = (λ none. (let missing = none.0 in absurd cc), λ left. absurd cc)

slots-left : (entry exit : Row) → length entry.slots ≡ 4 → length exit.slots ≡ 4 → list_all may_be_given entry.slots ≡ true
    → ((missing_slots entry exit ≡ open_row) × (kept_slots entry exit ≡ open_row)) ↔ (all2 is_left entry.slots exit.slots ≡ true)
slots-left entry exit four also_four given =
    let missing = zip-each missing_only entry.slots exit.slots Empty Empty 4 four also_four in
    let kept = zip-each kept_only entry.slots exit.slots Empty Empty 4 four also_four in
    let first = open-slots (missing_slots entry exit).slots in
    let second = open-slots (kept_slots entry exit).slots in
    let is = each-tests (λ k. (missing_only (get_or entry.slots k Empty) (get_or exit.slots k Empty) ≡ Empty)
    × (kept_only (get_or entry.slots k Empty) (get_or exit.slots k Empty) ≡ Empty)) is_left entry.slots exit.slots Empty Empty 4 four also_four
    (λ k lt. slot-left (get_or entry.slots k Empty) (get_or exit.slots k Empty) (all-at may_be_given entry.slots Empty k given (omega arith))) in (
      λ none. is.0 (λ k lt. (missing.0 (first.0 none.0) k lt, kept.0 (second.0 none.1) k lt)),
      λ left. (first.1 (missing.1 (λ k lt. (is.1 left k lt).0)), second.1 (kept.1 (λ k lt. (is.1 left k lt).1))),
    )

-- a pointer is not named exactly where it is stale
pointer-stale : (pointer : Option Pointer) → (pointer ≡ None) ↔ (is_stale pointer ≡ true)
pointer-stale None = (λ none. refl, λ stale. refl)
pointer-stale (Some q) = (λ none. absurd cc, λ stale. absurd cc)

pointers-stale : (row : Row) → length row.pointers ≡ 4 → (known_pointers row ≡ open_row) ↔ (list_all is_stale row.pointers ≡ true)
pointers-stale row four =
    let items = open-pointers row.pointers in
    let each = same-each row.pointers None None 4 four in
    let all = rw four at (each-all (λ k. get_or row.pointers k None ≡ None) is_stale row.pointers None
    (λ k lt. pointer-stale (get_or row.pointers k None))) in
    (λ none. all.0 (each.0 (items.0 none)), λ stale. items.1 (each.1 (all.1 stale)))

-- a pair is not named exactly where it may be one block
pair-one : (known a b : Bool) → ((known && not a && not b) ≡ false) ↔ ((not known || a || b) ≡ true)
pair-one false a b = (λ none. refl, λ one. refl)
pair-one true true b = (λ none. refl, λ one. refl)
pair-one true false true = (λ none. refl, λ one. refl)
pair-one true false false = (λ none. absurd cc, λ one. absurd cc)

-- a change of pairs, at an index
pairs-at : (change : Bool → ℕ × ℕ → Bool) (known : List Bool) (pairs : List (ℕ × ℕ)) (d : ℕ × ℕ) (k : ℕ)
    → length known ≡ length pairs → k < length known
    → get_or (each_pair change known pairs) k false ≡ change (get_or known k false) (get_or pairs k d)
pairs-at change [] pairs d k same lt = absurd (omega arith)
pairs-at change (x ∷ known) [] d k same lt = absurd (omega arith)
pairs-at change (x ∷ known) (pair ∷ pairs) d zero same lt = refl
pairs-at change (x ∷ known) (pair ∷ pairs) d (suc k) same lt = pairs-at change known pairs d k (omega arith) (omega arith)

pairs-length : (change : Bool → ℕ × ℕ → Bool) (known : List Bool) (pairs : List (ℕ × ℕ)) → length known ≡ length pairs
    → length (each_pair change known pairs) ≡ length known
pairs-length change [] pairs same = refl
pairs-length change (x ∷ known) [] same = absurd (omega arith)
pairs-length change (x ∷ known) (pair ∷ pairs) same = ap suc (pairs-length change known pairs (omega arith))

pairs-one : (row : Row) → length row.pairs ≡ 6 → (held_pairs row ≡ open_row) ↔ (all2 (may_be_one row.slots) row.pairs slot_pairs ≡ true)
pairs-one row six =
    let items = open-pairs (held_pairs row).pairs in
    let each = same-each (held_pairs row).pairs false false 6 (pairs-length (differ_held row.slots) row.pairs slot_pairs six ∙ six) in
    let tests = each-tests (λ k. get_or (held_pairs row).pairs k false ≡ false) (may_be_one row.slots) row.pairs slot_pairs false (0, 0) 6 six refl
    (λ k lt. rw (pairs-at (differ_held row.slots) row.pairs slot_pairs (0, 0) k six (omega arith))
    (pair-one (get_or row.pairs k false) (is_empty (get_or row.slots (get_or slot_pairs k (0, 0)).0 Empty))
    (is_empty (get_or row.slots (get_or slot_pairs k (0, 0)).1 Empty)))) in
    (λ none. tests.0 (each.0 (items.0 none)), λ one. items.1 (each.1 (tests.1 one)))

-- a caller from outside may enter by an entry row exactly if the row has no fault
enters : (entry : Row) → HasLengths entry
    → ((own_slots entry ≡ open_row) × (marked_slots entry ≡ open_row) × (held_pairs entry ≡ open_row) × (known_pointers entry ≡ open_row))
    ↔ (may_enter entry ≡ true)
enters entry whole =
    let slots = slots-given entry whole.slots in
    let pointers = pointers-stale entry whole.pointers in
    let pairs = pairs-one entry whole.pairs in (
      λ none. rw (slots.0 (none.0, none.1), pointers.0 none.3, pairs.0 none.2) refl,
      λ enter. (let last = and_parts (list_all may_be_given entry.slots && list_all is_stale entry.pointers)
          (all2 (may_be_one entry.slots) entry.pairs slot_pairs) enter in
          let first = and_parts (list_all may_be_given entry.slots) (list_all is_stale entry.pointers) last.0 in
          let none = slots.1 first.0 in
          (none.0, none.1, pairs.1 last.1, pointers.1 first.1)),
    )

-- and leave by an exit row, where it entered so
leaves : (entry exit : Row) → HasLengths entry → HasLengths exit → may_enter entry ≡ true
    → ((missing_slots entry exit ≡ open_row) × (kept_slots entry exit ≡ open_row) × (known_pointers exit ≡ open_row))
    ↔ (may_leave entry exit ≡ true)
leaves entry exit whole whole_exit enter =
    let given = and_parts (list_all may_be_given entry.slots && list_all is_stale entry.pointers)
    (all2 (may_be_one entry.slots) entry.pairs slot_pairs) enter in
    let slots_given = and_parts (list_all may_be_given entry.slots) (list_all is_stale entry.pointers) given.0 in
    let slots = slots-left entry exit whole.slots whole_exit.slots slots_given.0 in
    let pointers = pointers-stale exit whole_exit.pointers in (
      λ none. rw (slots.0 (none.0, none.1), pointers.0 none.2) refl,
      λ leave. (let parts = and_parts (all2 is_left entry.slots exit.slots) (list_all is_stale exit.pointers) leave in
          let none = slots.1 parts.0 in
          (none.0, none.1, pointers.1 parts.1)),
    )

pub no_faults : NoFaultsWhereItMayEnterAndLeave
no_faults entry exit shaped shaped_exit =
    let whole = lengths entry shaped in
    let enter = enters entry whole in
    let leave = leaves entry exit whole (lengths exit shaped_exit) in (
      λ none.
          let entered = enter.0 (none.own, none.marked, none.pairs, none.pointers) in
          rw (entered, (leave entered).0 (none.missing, none.kept, none.left)) refl,
      λ may.
          let parts = and_parts (may_enter entry) (may_leave entry exit) may in
          let entered = enter.1 parts.0 in
          let left = (leave parts.0).1 parts.1 in
          record {
            own = entered.0;
            marked = entered.1;
            pairs = entered.2;
            pointers = entered.3;
            missing = left.0;
            kept = left.1;
            left = left.2;
          },
    )
