-- A row that is written by its items is read back.
use Rattle.std.proofs.Common.{◌≡◌, ◌∙◌, ◌<◌, ◌≤◌, ◌^◌, ℕ, zero, suc, ◌+◌, Bool, true, false, cond, ◌==◌, ◌&&◌, ◌||◌, nat_lt, List, [], ◌∷◌, ◌++◌, length, get_or, replicate, slice_index, slice_set, Option, Some, None, Ok, refl, sym, ap, append_assoc, arith}
use Rattle.std.specs.Prelude.{codes, decimal, slice_index_or}
use Rattle.std.specs.List.{list_all}
use Rattle.std.proofs.lemmas.Bool.{and_parts, and_from, eqb-true, ltb-true}
use Rattle.std.proofs.lemmas.Fmt.{decimal_digit}
use Rattle.std.proofs.lemmas.List.{get_or-set_other, get_or-replicate}
use Rattle.std.proofs.lemmas.List.Folds.{list_all-append}
use Rattle.geos_image.specs.declared.row.Row.{Row}
use Rattle.geos_image.specs.declared.row.Pointer.{Pointer}
use Rattle.geos_image.specs.declared.row.SlotState.{SlotState}
use Rattle.geos_image.specs.declared.row.SlotState.TheVariants.{Empty, Mem, Vm, Db}
use Rattle.geos_image.specs.Legal.{is_own, is_pointer, is_shaped, is_row}
use Rattle.geos_image.specs.Open.{open_row}
use Rattle.geos_image.specs.Ranges.{PointerFits, RowFits}
use Rattle.geos_listing.specs.Rows.{texts_below, state_word, slot_item, pointer_item, pair_item, pair_slots, row_items}
use Rattle.geos_source.specs.Operands.{unless_faulty}
use Rattle.geos_source.specs.Items.{slot_state_of, item, RowRead, with_item, with_items, row_of}
use Rattle.round_trip.proofs.Spaced.{is_word, spaced}
use Rattle.round_trip.proofs.ItemsAgain.{bound_word, held_word, pointer_word, bound-written, held-written, pointer-written, bound-read, held-read, pointer-read}

-- ---- words of the numbers below n

-- the words of each number below n
abbrev pub words_below : ℕ → (ℕ → List (List ℕ)) → List (List ℕ)
words_below zero words = []
words_below (suc n) words = words_below n words ++ words n

pub spaced-append : (front back : List (List ℕ)) → spaced (front ++ back) ≡ spaced front ++ spaced back
spaced-append [] back = refl
spaced-append (word ∷ front) back = ap (λ (t : List ℕ). 32 ∷ (word ++ t)) (spaced-append front back)
    ∙ ap (λ (t : List ℕ). 32 ∷ t) (sym (append_assoc word (spaced front) (spaced back)))

texts-spaced : (n : ℕ) (text : ℕ → List ℕ) (words : ℕ → List (List ℕ)) → ((k : ℕ) → k < n → text k ≡ spaced (words k))
    → texts_below n text ≡ spaced (words_below n words)
unfolding texts_below
texts-spaced zero text words each = refl
texts-spaced (suc n) text words each =
    ap (λ (t : List ℕ). t ++ text n) (texts-spaced n text words (λ k lt. each k (omega (arith, lt))))
    ∙ ap (λ (t : List ℕ). spaced (words_below n words) ++ t) (each n (omega arith))
    ∙ sym (spaced-append (words_below n words) (words n))

pub are_words : (n : ℕ) (words : ℕ → List (List ℕ)) → ((k : ℕ) → k < n → list_all is_word (words k) ≡ true)
    → list_all is_word (words_below n words) ≡ true
are_words zero words each = refl
are_words (suc n) words each =
    list_all-append is_word (words_below n words) (words n)
    ∙ and_from (list_all is_word (words_below n words)) (list_all is_word (words n)) (are_words n words (λ k lt. each k (omega (arith, lt))))
    (each n (omega arith))

-- ---- the words of a row

-- a word's bound, unless it is the greatest word
abbrev pub bound_words : ℕ → ℕ → List (List ℕ)
bound_words i bound = cond (bound == 65535) [] (bound_word i bound ∷ [])

-- what a slot holds, unless it is empty
abbrev pub slot_words : ℕ → SlotState → List (List ℕ)
slot_words i Empty = []
slot_words i state = held_word i (state_word state) ∷ []

-- where a pointer leads, unless nothing is known of it
abbrev pub pointer_words : ℕ → Option Pointer → List (List ℕ)
pointer_words i None = []
pointer_words i (Some p) = pointer_word i p.slot p.least ∷ []

-- two slots, if they are known to hold different blocks
abbrev pub pair_words : ℕ × ℕ → Bool → List (List ℕ)
pair_words pair false = []
pair_words pair true = (115 ∷ (48 + pair.0) ∷ 35 ∷ 115 ∷ (48 + pair.1) ∷ []) ∷ []

abbrev pub bounds_of : Row → ℕ → List (List ℕ)
bounds_of row i = bound_words i (slice_index row.bounds i)

abbrev pub slots_of : Row → ℕ → List (List ℕ)
slots_of row i = slot_words i (slice_index_or row.slots i Empty)

abbrev pub pointers_of : Row → ℕ → List (List ℕ)
pointers_of row i = pointer_words i (slice_index_or row.pointers i None)

abbrev pub pairs_of : Row → ℕ → List (List ℕ)
pairs_of row k = pair_words (slice_index_or pair_slots k (0, 0)) (slice_index_or row.pairs k false)

-- the words of the items in which a row differs from the open row
abbrev pub row_words : Row → List (List ℕ)
row_words row = words_below 8 (bounds_of row) ++ words_below 4 (slots_of row) ++ words_below 4 (pointers_of row) ++ words_below 6 (pairs_of row)

-- ---- what is known of a row

-- a row's lists are as long as they are to be, and its numbers are in their ranges
pub record IsSound (row : Row) : Type 0 where
  pub eight : length row.bounds ≡ 8
  pub slots : length row.slots ≡ 4
  pub pointers : length row.pointers ≡ 4
  pub pairs : length row.pairs ≡ 6
  pub bound : (i : ℕ) → i < 8 → slice_index row.bounds i < 2 ^ 16
  pub leads : (i : ℕ) → i < 4 → is_pointer (slice_index_or row.pointers i None) ≡ true
  pub least : (i : ℕ) → i < 4 → PointerFits (slice_index_or row.pointers i None)

pub passes_at : {A : Type 0} (test : A → Bool) (xs : List A) (k : ℕ) (d : A) → test d ≡ true → list_all test xs ≡ true → test (get_or xs k d) ≡ true
passes_at test [] k d passes h = passes
passes_at test (x ∷ xs) zero d passes h = (and_parts (test x) (list_all test xs) h).0
passes_at test (x ∷ xs) (suc k) d passes h = passes_at test xs k d passes ((and_parts (test x) (list_all test xs) h).1)

pub is_sound : (borrows : Bool) (row : Row) → is_row borrows row ≡ true → RowFits row → IsSound row
is_sound borrows row legal fits =
    let borrowed = borrows || list_all is_own row.slots in
    let o = and_parts (borrowed && is_shaped row) (list_all is_pointer row.pointers) legal in
    let shaped = (and_parts borrowed (is_shaped row) o.0).1 in
    let a = length row.bounds == 8 in
    let b = length row.slots == 4 in
    let c = length row.pointers == 4 in
    let d = length row.pairs == 6 in
    let q = and_parts (a && b && c) d shaped in
    let r = and_parts (a && b) c q.0 in
    let s = and_parts a b r.0 in
    let eight : length row.bounds ≡ 8 = eqb-true (length row.bounds) 8 s.0 in
    let four : length row.pointers ≡ 4 = eqb-true (length row.pointers) 4 r.1 in
    record {
      eight = eight;
      slots = eqb-true (length row.slots) 4 s.1;
      pointers = four;
      pairs = eqb-true (length row.pairs) 6 q.1;
      bound = λ i lt. fits.bounds i 0 (omega (arith, lt, eight));
      leads = λ i lt. passes_at is_pointer row.pointers i None refl o.1;
      least = λ i lt. fits.pointers i None (omega (arith, lt, four));
    }

-- ---- how it is written

bounds-written : (i bound : ℕ) (greatest : Bool) → i < 8
    → cond greatest [] (codes " w" ++ decimal i ++ codes "<=" ++ decimal bound) ≡ spaced (cond greatest [] (bound_word i bound ∷ []))
bounds-written i bound true lt = refl
bounds-written i bound false lt = bound-written i bound (omega (arith, lt))

slots-written : (i : ℕ) (state : SlotState) → i < 4 → slot_item i state ≡ spaced (slot_words i state)
slots-written i Empty lt = refl
slots-written i state lt = held-written i (state_word state) (omega (arith, lt))

pointers-written : (i : ℕ) (pointer : Option Pointer) → i < 4 → is_pointer pointer ≡ true → pointer_item i pointer ≡ spaced (pointer_words i pointer)
pointers-written i None lt leads = refl
pointers-written i (Some p) lt leads = pointer-written i p (omega (arith, lt)) (omega (arith, ltb-true p.slot 4 leads))

-- slots have one digit
abbrev pub one_digit : ℕ × ℕ → Bool
one_digit pair = nat_lt pair.0 10 && nat_lt pair.1 10

pairs-written : (pair : ℕ × ℕ) (known : Bool) → one_digit pair ≡ true → pair_item pair known ≡ spaced (pair_words pair known)
pairs-written pair false digits = refl
pairs-written pair true digits =
    let p = and_parts (nat_lt pair.0 10) (nat_lt pair.1 10) digits in
    ap (λ (ds : List ℕ). codes " s" ++ ds ++ codes "#s" ++ decimal pair.1) (decimal_digit pair.0 (ltb-true pair.0 10 p.0))
    ∙ ap (λ (ds : List ℕ). codes " s" ++ ((48 + pair.0) ∷ []) ++ codes "#s" ++ ds) (decimal_digit pair.1 (ltb-true pair.1 10 p.1))

-- a row's items are written as these words, with a blank before each
pub row_items-spaced : (row : Row) → IsSound row → row_items row ≡ spaced (row_words row)
unfolding row_items
row_items-spaced row sound =
    let a = words_below 8 (bounds_of row) in
    let b = words_below 4 (slots_of row) in
    let c = words_below 4 (pointers_of row) in
    let d = words_below 6 (pairs_of row) in
    let slot_texts = texts_below 4 (λ i. slot_item i (slice_index_or row.slots i Empty)) in
    let pointer_texts = texts_below 4 (λ i. pointer_item i (slice_index_or row.pointers i None)) in
    let pair_texts = texts_below 6 (λ k. pair_item (slice_index_or pair_slots k (0, 0)) (slice_index_or row.pairs k false)) in
    ap (λ (t : List ℕ). t ++ slot_texts ++ pointer_texts ++ pair_texts)
    (texts-spaced 8 _ (bounds_of row) (λ i lt. bounds-written i (slice_index row.bounds i) (slice_index row.bounds i == 65535) lt))
    ∙ ap (λ (t : List ℕ). spaced a ++ t ++ pointer_texts ++ pair_texts)
    (texts-spaced 4 _ (slots_of row) (λ i lt. slots-written i (slice_index_or row.slots i Empty) lt))
    ∙ ap (λ (t : List ℕ). spaced a ++ spaced b ++ t ++ pair_texts)
    (texts-spaced 4 _ (pointers_of row) (λ i lt. pointers-written i (slice_index_or row.pointers i None) lt (sound.leads i lt)))
    ∙ ap (λ (t : List ℕ). spaced a ++ spaced b ++ spaced c ++ t)
    (texts-spaced 6 _ (pairs_of row) (λ k lt. pairs-written (slice_index_or pair_slots k (0, 0))
    (slice_index_or row.pairs k false) (passes_at one_digit pair_slots k (0, 0) refl refl)))
    ∙ ap (λ (t : List ℕ). t ++ spaced c ++ spaced d) (sym (spaced-append a b))
    ∙ ap (λ (t : List ℕ). t ++ spaced d) (sym (spaced-append (a ++ b) c))
    ∙ sym (spaced-append (a ++ b ++ c) d)

-- ---- how it is read

-- a row without fault so far
abbrev reading : Row → RowRead
reading row = record { row = row; fault = None }

with_items-append : (front back : List (List ℕ)) (read : RowRead) → with_items (front ++ back) read ≡ with_items back (with_items front read)
with_items-append [] back read = refl
with_items-append (word ∷ front) back read = with_items-append front back (with_item (item read.row word) read)

one_item : (row next : Row) (word : List ℕ) → item row word ≡ Ok next → with_items (word ∷ []) (reading row) ≡ reading next
one_item row next word e = ap (λ answer. with_item answer (reading row)) e

-- where each number's words make one step, those below n make n steps
steps : (n : ℕ) (words : ℕ → List (List ℕ)) (row : ℕ → Row) → ((k : ℕ) → k < n → with_items (words k) (reading (row k)) ≡ reading (row (suc k)))
    → with_items (words_below n words) (reading (row (0))) ≡ reading (row n)
steps zero words row each = refl
steps (suc n) words row each =
    with_items-append (words_below n words) (words n) (reading (row (0)))
    ∙ ap (with_items (words n)) (steps n words row (λ k lt. each k (omega (arith, lt))))
    ∙ each n (omega arith)

-- a list whose elements below n are replaced by values
abbrev set_below : {A : Type 0} → (ℕ → A) → ℕ → List A → List A
set_below value zero xs = xs
set_below value (suc n) xs = slice_set (set_below value n xs) n (value n)

later : {A : Type 0} (value : ℕ → A) (n k : ℕ) (xs : List A) (d : A) → n ≤ k → get_or (set_below value n xs) k d ≡ get_or xs k d
later value zero k xs d le = refl
later value (suc n) k xs d le = get_or-set_other (set_below value n xs) n k (value n) d (λ same. omega (arith, le, same))
    ∙ later value n k xs d (omega (arith, le))

fresh : {A : Type 0} (value : ℕ → A) (n k : ℕ) (x : A) → k < n → get_or (set_below value k (replicate n x)) k x ≡ x
fresh value n k x lt = later value k k (replicate n x) x (omega arith) ∙ get_or-replicate n k x x lt

set_same : {A : Type 0} (xs : List A) (k : ℕ) (x : A) → get_or xs k x ≡ x → xs ≡ slice_set xs k x
set_same [] k x e = refl
set_same (y ∷ xs) zero x e = ap (λ v. v ∷ xs) e
set_same (y ∷ xs) (suc k) x e = ap (λ vs. y ∷ vs) (set_same xs k x e)

bounds-read : (row : Row) (i bound : ℕ) (greatest : Bool) → (bound == 65535) ≡ greatest → i < 8 → bound < 2 ^ 16 → get_or row.bounds i 65535 ≡ 65535
    → with_items (cond greatest [] (bound_word i bound ∷ [])) (reading row) ≡ reading (record row { bounds = slice_set row.bounds i bound })
bounds-read row i bound true e lt word unset =
    ap (λ (bs : List ℕ). reading (record row { bounds = bs })) (set_same row.bounds i 65535 unset
    ∙ ap (slice_set row.bounds i) (sym (eqb-true bound 65535 e)))
bounds-read row i bound false e lt word unset = one_item row (record row { bounds = slice_set row.bounds i bound })
    (bound_word i bound) (bound-read row i bound lt word)

abbrev is_held : SlotState → Bool
is_held Empty = false
is_held _ = true

state_word-read : (state : SlotState) → is_held state ≡ true → slot_state_of (state_word state) ≡ Some state
state_word-read Empty h = absurd cc
state_word-read Mem h = refl
state_word-read (Vm true true) h = refl
state_word-read (Vm true false) h = refl
state_word-read (Vm false true) h = refl
state_word-read (Vm false false) h = refl
state_word-read (Db true) h = refl
state_word-read (Db false) h = refl

slots-read : (row : Row) (i : ℕ) (state : SlotState) → i < 4 → get_or row.slots i Empty ≡ Empty
    → with_items (slot_words i state) (reading row) ≡ reading (record row { slots = slice_set row.slots i state })
slots-read row i Empty lt unset = ap (λ (ss : List SlotState). reading (record row { slots = ss })) (set_same row.slots i Empty unset)
slots-read row i state lt unset = one_item row (record row { slots = slice_set row.slots i state })
    (held_word i (state_word state)) (held-read row i (state_word state) state lt (state_word-read state refl))

pointers-read : (row : Row) (i : ℕ) (pointer : Option Pointer) → i < 4 → is_pointer pointer ≡ true → PointerFits pointer
    → get_or row.pointers i None ≡ None
    → with_items (pointer_words i pointer) (reading row) ≡ reading (record row { pointers = slice_set row.pointers i pointer })
pointers-read row i None lt leads least unset = ap (λ (ps : List (Option Pointer)). reading (record row { pointers = ps }))
    (set_same row.pointers i None unset)
pointers-read row i (Some p) lt leads least unset =
    one_item row (record row { pointers = slice_set row.pointers i (Some p) }) (pointer_word i p.slot p.least)
    (pointer-read row i p.slot p.least lt (ltb-true p.slot 4 leads) least)

pair-read : (row : Row) (k : ℕ) (known : Bool) → k < 6 → get_or row.pairs k false ≡ false
    → with_items (pair_words (slice_index_or pair_slots k (0, 0)) known) (reading row) ≡ reading (record row { pairs = slice_set row.pairs k known })
unfolding item
pair-read row k false lt unset = ap (λ (ps : List Bool). reading (record row { pairs = ps })) (set_same row.pairs k false unset)
pair-read row zero true lt unset = refl
pair-read row (suc zero) true lt unset = refl
pair-read row (suc (suc zero)) true lt unset = refl
pair-read row (suc (suc (suc zero))) true lt unset = refl
pair-read row (suc (suc (suc (suc zero)))) true lt unset = refl
pair-read row (suc (suc (suc (suc (suc zero))))) true lt unset = refl
pair-read row (suc (suc (suc (suc (suc (suc k)))))) true lt unset = absurd (omega (arith, lt))

-- lists that are replaced whole
all_four : {A : Type 0} (xs : List A) (d x : A) → length xs ≡ 4 → set_below (λ i. get_or xs i d) 4 (replicate 4 x) ≡ xs
all_four (a ∷ b ∷ c ∷ e ∷ []) d x h = refl
all_four [] d x h = absurd (omega (arith, h))
all_four (a ∷ []) d x h = absurd (omega (arith, h))
all_four (a ∷ b ∷ []) d x h = absurd (omega (arith, h))
all_four (a ∷ b ∷ c ∷ []) d x h = absurd (omega (arith, h))
all_four (a ∷ b ∷ c ∷ e ∷ f ∷ xs) d x h = absurd (omega (arith, h))

all_six : {A : Type 0} (xs : List A) (d x : A) → length xs ≡ 6 → set_below (λ i. get_or xs i d) 6 (replicate 6 x) ≡ xs
all_six (a ∷ b ∷ c ∷ e ∷ f ∷ g ∷ []) d x h = refl
all_six [] d x h = absurd (omega (arith, h))
all_six (a ∷ []) d x h = absurd (omega (arith, h))
all_six (a ∷ b ∷ []) d x h = absurd (omega (arith, h))
all_six (a ∷ b ∷ c ∷ []) d x h = absurd (omega (arith, h))
all_six (a ∷ b ∷ c ∷ e ∷ []) d x h = absurd (omega (arith, h))
all_six (a ∷ b ∷ c ∷ e ∷ f ∷ []) d x h = absurd (omega (arith, h))
all_six (a ∷ b ∷ c ∷ e ∷ f ∷ g ∷ k ∷ xs) d x h = absurd (omega (arith, h))

all_eight : {A : Type 0} (xs : List A) (d x : A) → length xs ≡ 8 → set_below (λ i. get_or xs i d) 8 (replicate 8 x) ≡ xs
all_eight (a ∷ b ∷ c ∷ e ∷ f ∷ g ∷ k ∷ l ∷ []) d x h = refl
all_eight [] d x h = absurd (omega (arith, h))
all_eight (a ∷ []) d x h = absurd (omega (arith, h))
all_eight (a ∷ b ∷ []) d x h = absurd (omega (arith, h))
all_eight (a ∷ b ∷ c ∷ []) d x h = absurd (omega (arith, h))
all_eight (a ∷ b ∷ c ∷ e ∷ []) d x h = absurd (omega (arith, h))
all_eight (a ∷ b ∷ c ∷ e ∷ f ∷ []) d x h = absurd (omega (arith, h))
all_eight (a ∷ b ∷ c ∷ e ∷ f ∷ g ∷ []) d x h = absurd (omega (arith, h))
all_eight (a ∷ b ∷ c ∷ e ∷ f ∷ g ∷ k ∷ []) d x h = absurd (omega (arith, h))
all_eight (a ∷ b ∷ c ∷ e ∷ f ∷ g ∷ k ∷ l ∷ m ∷ xs) d x h = absurd (omega (arith, h))

-- the open row, as far as the items have made a row of it
abbrev with_bounds : Row → ℕ → Row
with_bounds row n = record open_row { bounds = set_below (slice_index row.bounds) n (replicate 8 65535) }

abbrev with_slots : Row → ℕ → Row
with_slots row n = record open_row { bounds = row.bounds; slots = set_below (λ i. slice_index_or row.slots i Empty) n (replicate 4 Empty) }

abbrev with_pointers : Row → ℕ → Row
with_pointers row n = record open_row {
  bounds = row.bounds;
  slots = row.slots;
  pointers =
      set_below (λ i. slice_index_or row.pointers i None) n (replicate 4 None);
}

abbrev with_pairs : Row → ℕ → Row
with_pairs row n = record row { pairs = set_below (λ k. slice_index_or row.pairs k false) n (replicate 6 false) }

items-read : (row : Row) → IsSound row → with_items (row_words row) (reading open_row) ≡ reading row
items-read row sound =
    let a = words_below 8 (bounds_of row) in
    let b = words_below 4 (slots_of row) in
    let c = words_below 4 (pointers_of row) in
    let d = words_below 6 (pairs_of row) in
    let bounds : with_items a (reading open_row) ≡ reading (with_bounds row (8)) =
    steps 8 (bounds_of row) (with_bounds row)
    (λ i lt. bounds-read (with_bounds row i) i (slice_index row.bounds i) (slice_index row.bounds i == 65535) refl lt
    (sound.bound i lt) (fresh (slice_index row.bounds) 8 i 65535 lt)) in
    let all_bounds : reading (with_bounds row (8)) ≡ reading (with_slots row (0)) =
    ap (λ (bs : List ℕ). reading (record open_row { bounds = bs })) (all_eight row.bounds 0 65535 sound.eight) in
    let slots : with_items b (reading (with_slots row (0))) ≡ reading (with_slots row (4)) =
    steps 4 (slots_of row) (with_slots row)
    (λ i lt. slots-read (with_slots row i) i (slice_index_or row.slots i Empty) lt (fresh (λ j. slice_index_or row.slots j Empty) 4 i Empty lt)) in
    let all_slots : reading (with_slots row (4)) ≡ reading (with_pointers row (0)) =
    ap (λ (ss : List SlotState). reading (record open_row { bounds = row.bounds; slots = ss })) (all_four row.slots Empty Empty sound.slots) in
    let pointers : with_items c (reading (with_pointers row (0))) ≡ reading (with_pointers row (4)) =
    steps 4 (pointers_of row) (with_pointers row)
    (λ i lt. pointers-read (with_pointers row i) i (slice_index_or row.pointers i None) lt (sound.leads i lt)
    (sound.least i lt) (fresh (λ j. slice_index_or row.pointers j None) 4 i None lt)) in
    let all_pointers : reading (with_pointers row (4)) ≡ reading (with_pairs row (0)) =
    ap (λ (ps : List (Option Pointer)). reading (record row { pointers = ps; pairs = replicate 6 false }))
    (all_four row.pointers None None sound.pointers) in
    let pairs : with_items d (reading (with_pairs row (0))) ≡ reading (with_pairs row (6)) =
    steps 6 (pairs_of row) (with_pairs row)
    (λ k lt. pair-read (with_pairs row k) k (slice_index_or row.pairs k false) lt (fresh (λ j. slice_index_or row.pairs j false) 6 k false lt)) in
    let all_pairs : reading (with_pairs row (6)) ≡ reading row = ap (λ (ps : List Bool). reading (record row { pairs = ps }))
    (all_six row.pairs false false sound.pairs) in
    with_items-append (a ++ b ++ c) d (reading open_row)
    ∙ ap (with_items d) (with_items-append (a ++ b) c (reading open_row))
    ∙ ap (λ read. with_items d (with_items c read)) (with_items-append a b (reading open_row))
    ∙ ap (λ read. with_items d (with_items c (with_items b read))) (bounds ∙ all_bounds)
    ∙ ap (λ read. with_items d (with_items c read)) (slots ∙ all_slots)
    ∙ ap (with_items d) (pointers ∙ all_pointers)
    ∙ pairs
    ∙ all_pairs

-- a row's items are read as the row
pub row_of-again : (row : Row) → IsSound row → row_of (row_words row) ≡ Ok row
unfolding row_of
row_of-again row sound = ap (λ read. unless_faulty read.row read.fault) (items-read row sound)
