-- Reading the encoding of an array returns the array.
use Rattle.std.proofs.Common.{◌≡◌, ◌≢◌, ℕ, suc, ◌+◌, ◌-◌, ◌*◌, ◌<◌, ◌≤◌, true, List, [], ◌∷◌, ◌++◌, Some, length, take, drop, get_or, refl, ap, sym, ◌∙◌, inl, inr, arith, length-append, length-drop}
use Rattle.std.specs.Prelude.{nat_le, ◌==◌, flat_map, All}
use Rattle.std.proofs.lemmas.Bool.{cases_eq, and_from, eq-eqb, ne_eqb, le-leb}
use Rattle.std.proofs.lemmas.List.{take_at, drop_at, drop-drop, append-nil, get_or-append-add}
use Rattle.std.proofs.lemmas.Grind.{same_number_lists}
use Rattle.lmem_raw.specs.Bytes.{part}
use Rattle.geos_terms.specs.Bytes.{word, word_bytes}
use Rattle.geos_terms.specs.Arrays.{Array, arr, are_offsets, are_varying, are_equal, never_fall, parts_at, parts_from, equal_parts, words_from, offsets, count_word, size_word, elements_in, head_words, table, first_at, spelled}
use Rattle.geos_terms.proofs.Joined.{join, length-word_bytes, word-word_bytes}
use Rattle.geos_terms.proofs.ArraySpells.{spells, first-varying, first-fixed, length-head, length-offsets, table-varying}
use Rattle.geos_terms.proofs.ArrayReads.{reads, headed, varying-array, equal-array, length-words_from, get_or-words_from}

-- elements of one size
all-size : (k : ℕ) (xs : List (List ℕ)) → All (λ x. length x ≡ k) xs → length (join xs) ≡ length xs * k
all-size k [] h = omega arith
all-size k (x ∷ xs) h =
    let e = all-size k xs (λ i d l. h (suc i) d (omega arith)) in
    let first = h 0 [] (omega arith) in
    let m : suc (length xs) * k ≡ k + length xs * k = omega arith in
    omega (arith, e, first, m, length-append x (join xs))

equal-back : (k : ℕ) (xs : List (List ℕ)) → All (λ x. length x ≡ k) xs → equal_parts k (length xs) (join xs) ≡ xs
equal-back k [] h = refl
equal-back k (x ∷ xs) h =
    let first = h 0 [] (omega arith) in
    ap (λ y. y ∷ equal_parts k (length xs) (drop k (x ++ join xs))) (take_at x (join xs) k first)
    ∙ ap (λ ys. x ∷ equal_parts k (length xs) ys) (drop_at x (join xs) k first)
    ∙ ap (λ ys. x ∷ ys) (equal-back k xs (λ i d l. h (suc i) d (omega arith)))

-- elements of varying sizes, by their offsets
record Back (bytes : List ℕ) (at : ℕ) (x : List ℕ) (xs : List (List ℕ)) : Type 0 where
  falls : never_fall at (offsets (at + length x) xs) (length bytes) ≡ true
  parts : parts_at bytes at (offsets (at + length x) xs) ≡ x ∷ xs

varying-back : (bytes : List ℕ) (at : ℕ) (x : List ℕ) (xs : List (List ℕ)) → drop at bytes ≡ join (x ∷ xs) → at ≤ length bytes → Back bytes at x xs
varying-back bytes at x [] is fits = record { falls = le-leb at (length bytes) fits; parts = ap (λ ys. ys ∷ []) (is ∙ append-nil x) }
varying-back bytes at x (y ∷ ys) is fits =
    let next = at + length x in
    let rest = offsets (next + length y) ys in
    let long = ap length is in
    let la = length-append x (join (y ∷ ys)) in
    let ld = length-drop at bytes in
    let behind : drop next bytes ≡ join (y ∷ ys) = sym (drop-drop (length x) at bytes) ∙ ap (drop (length x)) is
    ∙ drop_at x (join (y ∷ ys)) (length x) refl in
    let b = varying-back bytes next y ys behind (omega (arith, long, la, ld)) in
    let width : next - at ≡ length x = omega arith in
    record {
      falls = and_from (nat_le at next) (never_fall next rest (length bytes)) (le-leb at next (omega arith)) b.falls;
      parts = ap (λ n. part bytes at n ∷ parts_at bytes next rest) width ∙ ap (λ p. p ∷ parts_at bytes next rest)
          (ap (take (length x)) is ∙ take_at x (join (y ∷ ys)) (length x) refl)
          ∙ ap (λ ps. x ∷ ps) b.parts;
    }

offsets-back : (bytes : List ℕ) (first : ℕ) (xs : List (List ℕ)) → drop first bytes ≡ join xs → first ≤ length bytes
    → (are_offsets (offsets first xs) first (length bytes) ≡ true) × (parts_from bytes (offsets first xs) ≡ xs)
offsets-back bytes first [] is fits = let l = ap length is in (eq-eqb first (length bytes) (omega (arith, l, length-drop first bytes)), refl)
offsets-back bytes first (x ∷ xs) is fits =
    let b = varying-back bytes first x xs is fits in
    (and_from (first == first) (never_fall first (offsets (first + length x) xs) (length bytes)) (eq-eqb first first refl) b.falls, b.parts)

-- a word of header and table
head-word : (a : Array) (j : ℕ) → j < length (head_words a) → word (spelled a) (2 * j) ≡ get_or (head_words a) j 0
unfolding spelled
head-word a j h = word-word_bytes (head_words a) (join a.elements) j h

spelled-rest : (a : Array) → drop (first_at a) (spelled a) ≡ join a.elements
unfolding spelled
spelled-rest a = drop_at (flat_map word_bytes (head_words a)) (join a.elements) (first_at a) (length-word_bytes (head_words a) ∙ length-head a)

spelled-long : (a : Array) → length (spelled a) ≡ first_at a + length (join a.elements)
unfolding spelled
spelled-long a = omega (arith, length-head a, length-word_bytes (head_words a), length-append (flat_map word_bytes (head_words a)) (join a.elements))

pub array-spelled : (a : Array) → (a.element_size ≢ 0 → All (λ x. length x ≡ a.element_size) a.elements) → arr (spelled a) ≡ Some a
array-spelled a equal =
    let b = spelled a in
    let n = length-head a in
    let long = spelled-long a in
    let rest = spelled-rest a in
    let count : count_word b ≡ length a.elements = head-word a 0 (omega arith) in
    let size : size_word b ≡ a.element_size = head-word a 1 (omega arith) in
    let h = headed b (omega (arith, n, long)) (head-word a 2 (omega arith)) (head-word a 3 (omega arith)) in
    elim (cases_eq a.element_size 0) [
      | inl none ↦ (let first = first-varying a none in let t = table-varying a none in let m = length-offsets (first_at a) a.elements in
          let words : words_from b 8 (count_word b) ≡ offsets (first_at a) a.elements =
          same_number_lists (words_from b 8 (count_word b)) (offsets (first_at a) a.elements)
          (length-words_from b 8 (count_word b) ∙ count ∙ sym m) (λ j l.
          let j_in : j < length a.elements = omega (arith, l, length-words_from b 8 (count_word b), count) in
          let at : 8 + 2 * j ≡ 2 * (4 + j) = omega arith in
          let lt = ap length t in
          get_or-words_from b 8 (count_word b) j (omega (arith, count)) ∙ ap (word b) at ∙ head-word a (4 + j) (omega (arith, lt, m))
          ∙ get_or-append-add (length a.elements ∷ a.element_size ∷ 0 ∷ 8 ∷ []) (table a) j 0
          ∙ ap (λ xs. get_or xs j 0) t) in
          let back = offsets-back b (first_at a) a.elements rest (omega (arith, long)) in
          let top : 8 + 2 * count_word b ≡ first_at a = omega (arith, count, first) in
          let holds : are_varying b ≡ true = ap (λ xs. are_offsets xs (8 + 2 * count_word b) (length b)) words
          ∙ ap (λ x. are_offsets (offsets (first_at a) a.elements) x (length b)) top ∙ back.0 in
          let elements : elements_in b ≡ a.elements = (let q = eq-eqb (size_word b) 0 (size ∙ none) in rw q (ap (parts_from b) words ∙ back.1)) in
          varying-array b h (size ∙ none) holds ∙ ap (λ x. Some (record { element_size = x; elements = elements_in b })) size
          ∙ ap (λ x. Some (record { element_size = a.element_size; elements = x })) elements)
      | inr some ↦ (let first = first-fixed a some in let k = a.element_size in let wide = all-size k a.elements (equal some) in
          let same : length b ≡ 8 + length a.elements * k = omega (arith, long, first, wide) in
          let holds : are_equal b ≡ true = eq-eqb (length b) (8 + count_word b * size_word b)
          (same ∙ ap (λ x. 8 + x * k) (sym count) ∙ ap (λ x. 8 + count_word b * x) (sym size)) in
          let ne : size_word b ≢ 0 = (λ e. some (sym size ∙ e)) in
          let elements : elements_in b ≡ a.elements = (let q = ne_eqb (size_word b) 0 ne in
          rw q (ap (λ x. equal_parts x (count_word b) (drop 8 b)) size ∙ ap (λ x. equal_parts k x (drop 8 b)) count
          ∙ ap (equal_parts k (length a.elements)) (ap (λ x. drop x b) (sym first) ∙ rest) ∙ equal-back k a.elements (equal some))) in
          equal-array b h ne holds ∙ ap (λ x. Some (record { element_size = x; elements = elements_in b })) size
          ∙ ap (λ x. Some (record { element_size = k; elements = x })) elements)
    ]

-- the bytes of an array are its encoding
pub spelled-array : (bytes : List ℕ) (a : Array) → ((k : ℕ) → get_or bytes k 0 < 256) → arr bytes ≡ Some a → spelled a ≡ bytes
spelled-array bytes a small is = sym (spells bytes a (reads bytes a small is).spells)
