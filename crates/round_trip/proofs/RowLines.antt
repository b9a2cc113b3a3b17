-- The line of a row says its word and the words of its items.
use Rattle.std.proofs.Common.{◌≡◌, ◌∙◌, ◌<◌, ◌^◌, ℕ, Bool, true, false, cond, ◌==◌, nat_lt, List, [], ◌∷◌, ◌++◌, length, slice_index, Option, Some, None, refl, sym, ap, arith}
use Rattle.std.specs.Prelude.{codes, slice_index_or}
use Rattle.std.specs.List.{list_all}
use Rattle.std.proofs.lemmas.Bool.{ne_eqb, and_parts, and_from, ltb-true}
use Rattle.std.proofs.lemmas.List.Folds.{list_all-append}
use Rattle.geos_image.specs.declared.row.Row.{Row}
use Rattle.geos_image.specs.declared.row.Pointer.{Pointer}
use Rattle.geos_image.specs.declared.row.SlotState.{SlotState}
use Rattle.geos_image.specs.declared.row.SlotState.TheVariants.{Empty, Mem, Vm, Db}
use Rattle.geos_image.specs.Legal.{is_pointer}
use Rattle.geos_image.specs.Open.{open_row}
use Rattle.geos_image.specs.Ranges.{PointerFits}
use Rattle.geos_listing.specs.Rows.{state_word, row_line, pair_slots}
use Rattle.geos_text.specs.Words.{is_empty}
use Rattle.geos_source.specs.Names.{label_of}
use Rattle.geos_source.specs.Lines.{said, parted}
use Rattle.geos_source.specs.Items.{row_of}
use Rattle.geos_source.proofs.ReadLaws.{ok_is}
use Rattle.round_trip.proofs.Spaced.{spaced, said-spaced, is_word, is_inner}
use Rattle.round_trip.proofs.InstrLines.{parted-statement}
use Rattle.round_trip.proofs.RowsAgain.{row_items-spaced, words_below, are_words, slot_words, pointer_words, pair_words, bounds_of, slots_of, pointers_of, pairs_of, row_words, passes_at, one_digit, IsSound, row_of-again}
use Rattle.round_trip.proofs.ItemsAgain.{bound_word, held_word, pointer_word, bound-word, held-word, pointer-word, digit-inner}

one : (word : List ℕ) → is_word word ≡ true → list_all is_word (word ∷ []) ≡ true
one word h = and_from (is_word word) true h refl

bounds-words : (i bound : ℕ) (greatest : Bool) → i < 8 → bound < 2 ^ 16 → list_all is_word (cond greatest [] (bound_word i bound ∷ [])) ≡ true
bounds-words i bound true lt word = refl
bounds-words i bound false lt word = one (bound_word i bound) (bound-word i bound (omega (arith, lt)) word)

state_word-inner : (state : SlotState) → list_all is_inner (state_word state) ≡ true
state_word-inner Empty = refl
state_word-inner Mem = refl
state_word-inner (Vm true true) = refl
state_word-inner (Vm true false) = refl
state_word-inner (Vm false true) = refl
state_word-inner (Vm false false) = refl
state_word-inner (Db true) = refl
state_word-inner (Db false) = refl

slots-words : (i : ℕ) (state : SlotState) → i < 4 → list_all is_word (slot_words i state) ≡ true
slots-words i Empty lt = refl
slots-words i state lt = one (held_word i (state_word state)) (held-word i (state_word state) (omega (arith, lt)) (state_word-inner state))

pointers-words : (i : ℕ) (pointer : Option Pointer) → i < 4 → is_pointer pointer ≡ true → PointerFits pointer
    → list_all is_word (pointer_words i pointer) ≡ true
pointers-words i None lt leads least = refl
pointers-words i (Some p) lt leads least = one (pointer_word i p.slot p.least)
    (pointer-word i p.slot p.least (omega (arith, lt)) (omega (arith, ltb-true p.slot 4 leads)) least)

pairs-words : (pair : ℕ × ℕ) (known : Bool) → one_digit pair ≡ true → list_all is_word (pair_words pair known) ≡ true
pairs-words pair false digits = refl
pairs-words pair true digits =
    let p = and_parts (nat_lt pair.0 10) (nat_lt pair.1 10) digits in
    rw (digit-inner pair.0 (ltb-true pair.0 10 p.0), digit-inner pair.1 (ltb-true pair.1 10 p.1)) refl

joined : (front back : List (List ℕ)) → list_all is_word front ≡ true → list_all is_word back ≡ true → list_all is_word (front ++ back) ≡ true
joined front back p q = list_all-append is_word front back ∙ and_from (list_all is_word front) (list_all is_word back) p q

-- the words of a row's items are words
pub row-words : (row : Row) → IsSound row → list_all is_word (row_words row) ≡ true
row-words row sound =
    let a = are_words 8 (bounds_of row) (λ i lt. bounds-words i (slice_index row.bounds i) (slice_index row.bounds i == 65535) lt
    (sound.bound i lt)) in
    let b = are_words 4 (slots_of row) (λ i lt. slots-words i (slice_index_or row.slots i Empty) lt) in
    let c = are_words 4 (pointers_of row) (λ i lt. pointers-words i (slice_index_or row.pointers i None) lt (sound.leads i lt) (sound.least i lt)) in
    let d = are_words 6 (pairs_of row) (λ k lt. pairs-words (slice_index_or pair_slots k (0, 0)) (slice_index_or row.pairs k false)
    (passes_at one_digit pair_slots k (0, 0) refl refl)) in
    let bounds = words_below 8 (bounds_of row) in
    let slots = words_below 4 (slots_of row) in
    let pointers = words_below 4 (pointers_of row) in
    let pairs = words_below 6 (pairs_of row) in
    joined (bounds ++ slots ++ pointers) pairs (joined (bounds ++ slots) pointers (joined bounds slots a b) c) d

-- a row without items is the open row
pub open-again : (row : Row) → IsSound row → row_words row ≡ [] → open_row ≡ row
unfolding row_of
open-again row sound none = ok_is open_row row (ap row_of (sym none) ∙ row_of-again row sound)

-- the word before a row's items: `in` or `out`
pub record IsRowWord (text : List ℕ) : Type 0 where
  pub word : is_word text ≡ true
  pub no_label : label_of text ≡ None

pub in-is : IsRowWord (codes "in")
unfolding label_of
in-is = record { word = refl; no_label = refl }

pub out-is : IsRowWord (codes "out")
unfolding label_of
out-is = record { word = refl; no_label = refl }

-- the line of a row, without its end
abbrev pub row_text : List ℕ → Row → List ℕ
row_text word row = word ++ spaced (row_words row)

-- it says its word and the words of the row's items
pub row-said : (word : List ℕ) (row : Row) → IsRowWord word → IsSound row
    → parted (said (row_text word row)) ≡ record { labels = []; statement = word ∷ row_words row }
row-said word row is sound = ap parted (said-spaced word (row_words row) is.word (row-words row sound))
    ∙ parted-statement word (row_words row) is.no_label

line_unless : (word : List ℕ) (words : List (List ℕ)) → cond (length (spaced words) == 0) [] (word ++ spaced words ++ codes "\n")
    ≡ cond (is_empty words) [] (word ++ spaced words ++ codes "\n")
line_unless word [] = refl
line_unless word (first ∷ words) = rw (ne_eqb (length (spaced (first ∷ words))) 0 (λ none. omega (arith, none))) refl

-- the line is written unless the row is open
pub row_line-text : (word : List ℕ) (row : Row) → IsSound row → row_line word row ≡ cond (is_empty (row_words row)) [] (row_text word row ++ codes "\n")
row_line-text word row sound = ap (λ (t : List ℕ). cond (length t == 0) [] (word ++ t ++ codes "\n")) (row_items-spaced row sound) ∙ line_unless word (row_words row)
