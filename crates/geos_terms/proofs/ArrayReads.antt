-- The array that bytes encode.
use Rattle.std.proofs.Common.{◌≡◌, ◌≢◌, ℕ, zero, suc, ◌+◌, ◌-◌, ◌*◌, ◌<◌, ◌≤◌, true, false, List, [], ◌∷◌, ◌++◌, Some, None, length, take, drop, get_or, refl, ap, sym, ◌∙◌, subst, inl, inr, arith, length-append, length-take, length-drop}
use Rattle.std.specs.Prelude.{nat_le, ◌==◌, ◌&&◌, if◌then◌else◌}
use Rattle.std.proofs.lemmas.Bool.{cases_eq, cases_Bool, and_parts, and_from, and_left, eq-eqb, ne_eqb, eqb-true, le-leb, leb-true}
use Rattle.std.proofs.lemmas.List.{take-append-drop, drop-drop, drop_all, take_all}
use Rattle.lmem_raw.specs.Bytes.{part}
use Rattle.geos_terms.specs.Bytes.{word}
use Rattle.geos_terms.specs.Arrays.{Array, arr, is_array, has_header, are_varying, are_equal, are_offsets, never_fall, words_from, offset_words, parts_at, parts_from, equal_parts, elements_in, size_word, count_word, first_at, element_at}
use Rattle.geos_terms.proofs.Joined.{join}
use Rattle.geos_terms.proofs.ArraySpells.{Spells, first-varying, first-fixed, element-at}

pub length-words_from : (bytes : List ℕ) (at n : ℕ) → length (words_from bytes at n) ≡ n
length-words_from bytes at zero = refl
length-words_from bytes at (suc n) = ap suc (length-words_from bytes (at + 2) n)

pub get_or-words_from : (bytes : List ℕ) (at n j : ℕ) → j < n → get_or (words_from bytes at n) j 0 ≡ word bytes (at + 2 * j)
get_or-words_from bytes at zero j h = absurd (omega arith)
get_or-words_from bytes at (suc n) zero h = let e : at ≡ at + 2 * 0 = omega arith in ap (word bytes) e
get_or-words_from bytes at (suc n) (suc j) h = let e : at + 2 + 2 * j ≡ at + 2 * suc j = omega arith in
    get_or-words_from bytes (at + 2) n j (omega arith) ∙ ap (word bytes) e

-- if the offsets never fall, the parts fill the bytes from the first offset on
record Fills (bytes : List ℕ) (at : ℕ) (rest : List ℕ) : Type 0 where
  within : at ≤ length bytes
  count : length (parts_at bytes at rest) ≡ suc (length rest)
  whole : join (parts_at bytes at rest) ≡ drop at bytes
  begin : (j : ℕ) → j < suc (length rest) → at + length (join (take j (parts_at bytes at rest))) ≡ get_or (at ∷ rest) j 0

length-part : (bytes : List ℕ) (at next : ℕ) → at ≤ next → next ≤ length bytes → length (part bytes at (next - at)) ≡ next - at
length-part bytes at next h fits = omega (arith, length-take (next - at) (drop at bytes), length-drop at bytes)

fills : (bytes : List ℕ) (at : ℕ) (rest : List ℕ) → never_fall at rest (length bytes) ≡ true → Fills bytes at rest
fills bytes at [] h = record {
  within = leb-true at (length bytes) h;
  count = refl;
  whole = append-nil (drop at bytes);
  begin = λ j l. first j (omega arith);
}
  where
    append-nil : (xs : List ℕ) → xs ++ [] ≡ xs
    append-nil [] = refl
    append-nil (x ∷ xs) = ap (λ zs. x ∷ zs) (append-nil xs)

    first : (j : ℕ) → j ≡ 0 → at + length (join (take j (parts_at bytes at []))) ≡ get_or (at ∷ []) j 0
    first j e = ap (λ k. at + length (join (take k (parts_at bytes at [])))) e ∙ omega arith ∙ ap (λ k. get_or (at ∷ []) k 0) (sym e)
fills bytes at (next ∷ rest) h =
    let both = and_parts (nat_le at next) (never_fall next rest (length bytes)) h in
    let low = leb-true at next both.0 in
    let f = fills bytes next rest both.1 in
    let long = length-part bytes at next low f.within in
    let behind : drop (next - at) (drop at bytes) ≡ drop next bytes = drop-drop (next - at) at bytes
    ∙ ap (λ m. drop m bytes) (let e : at + (next - at) ≡ next = omega arith in e) in
    record {
      within = omega arith;
      count = ap suc f.count;
      whole = ap (λ xs. part bytes at (next - at) ++ xs) (f.whole ∙ sym behind) ∙ take-append-drop (next - at) (drop at bytes);
      begin = later f long low;
    }
  where
    later : Fills bytes next rest → length (part bytes at (next - at)) ≡ next - at → at ≤ next
        → (j : ℕ) → j < suc (length (next ∷ rest)) → at + length (join (take j (parts_at bytes at (next ∷ rest)))) ≡ get_or (at ∷ (next ∷ rest)) j 0
    later f long low zero l = omega arith
    later f long low (suc j) l = let e = length-append (part bytes at (next - at)) (join (take j (parts_at bytes next rest))) in
        let b = f.begin j (omega arith) in omega (arith, e, b)

-- parts of one size fill what has their size
record Divides (k n : ℕ) (bytes : List ℕ) : Type 0 where
  count : length (equal_parts k n bytes) ≡ n
  whole : join (equal_parts k n bytes) ≡ bytes
  begin : (j : ℕ) → j ≤ n → length (join (take j (equal_parts k n bytes))) ≡ j * k

divides : (k n : ℕ) (bytes : List ℕ) → length bytes ≡ n * k → Divides k n bytes
divides k zero bytes h = record {
  count = refl;
  whole = nothing bytes (omega arith);
  begin = λ j l. none j (omega arith);
}
  where
    nothing : (bs : List ℕ) → length bs ≡ 0 → [] ≡ bs
    nothing [] e = refl
    nothing (b ∷ bs) e = absurd (omega arith)

    none : (j : ℕ) → j ≡ 0 → length (join (take j (equal_parts k zero bytes))) ≡ j * k
    none j e = ap (λ m. length (join (take m (equal_parts k zero bytes)))) e ∙ (let z : 0 ≡ 0 * k = omega arith in z) ∙ ap (λ m. m * k) (sym e)
divides k (suc n) bytes h =
    let d = divides k n (drop k bytes) (let e : suc n * k ≡ k + n * k = omega arith in omega (arith, length-drop k bytes, e, h)) in
    record { count = ap suc d.count; whole = ap (λ xs. take k bytes ++ xs) d.whole ∙ take-append-drop k bytes; begin = later d }
  where
    later : Divides k n (drop k bytes) → (j : ℕ) → j ≤ suc n → length (join (take j (equal_parts k (suc n) bytes))) ≡ j * k
    later d zero l = omega arith
    later d (suc j) l =
        let e = length-append (take k bytes) (join (take j (equal_parts k n (drop k bytes)))) in
        let b = d.begin j (omega arith) in
        let m : suc j * k ≡ k + j * k = omega arith in
        let w : suc n * k ≡ k + n * k = omega arith in
        omega (arith, e, b, m, w, length-take k bytes, h)

-- the array that bytes encode, by its parts
pub record Reads (bytes : List ℕ) (a : Array) : Type 0 where
  pub spells : Spells bytes a
  pub equal : a.element_size ≢ 0 → (i : ℕ) → i ≤ length a.elements → element_at a i ≡ 8 + i * a.element_size
  pub end : element_at a (length a.elements) ≡ length bytes

-- the array in bytes that are one
abbrev pub array_in : List ℕ → Array
array_in bytes = record { element_size = size_word bytes; elements = elements_in bytes }

-- the elements of bytes that are an array
record Elements (bytes : List ℕ) (first : ℕ) (xs : List (List ℕ)) : Type 0 where
  count : length xs ≡ count_word bytes
  within : first ≤ length bytes
  whole : join xs ≡ drop first bytes

varying-elements : (bytes : List ℕ) (n : ℕ) → are_offsets (words_from bytes 8 n) (8 + 2 * n) (length bytes) ≡ true
    → (length (parts_from bytes (words_from bytes 8 n)) ≡ n) × (8 + 2 * n ≤ length bytes)
    × (join (parts_from bytes (words_from bytes 8 n)) ≡ drop (8 + 2 * n) bytes)
    × ((j : ℕ) → j < n → 8 + 2 * n + length (join (take j (parts_from bytes (words_from bytes 8 n)))) ≡ word bytes (8 + 2 * j))
varying-elements bytes zero h =
    let long : 8 + 2 * 0 ≡ length bytes = eqb-true (8 + 2 * 0) (length bytes) h in
    (refl, omega arith, sym (drop_all (8 + 2 * 0) bytes (omega arith)), (λ j l. absurd (omega arith)))
varying-elements bytes (suc n) h =
    let both = and_parts (word bytes 8 == 8 + 2 * suc n) (never_fall (word bytes 8) (words_from bytes 10 n) (length bytes)) h in
    let first : word bytes 8 ≡ 8 + 2 * suc n = eqb-true (word bytes 8) (8 + 2 * suc n) both.0 in
    let f = fills bytes (word bytes 8) (words_from bytes 10 n) both.1 in
    let long = length-words_from bytes 10 n in (
      f.count ∙ ap suc long,
      omega arith,
      f.whole ∙ ap (λ m. drop m bytes) first,
      (λ j l. ap (λ m. m + length (join (take j (parts_at bytes (word bytes 8) (words_from bytes 10 n))))) (sym first)
          ∙ f.begin j (omega (arith, long)) ∙ get_or-words_from bytes 8 (suc n) j l),
    )

reads-varying : (bytes : List ℕ) → ((k : ℕ) → get_or bytes k 0 < 256) → word bytes 4 ≡ 0 → word bytes 6 ≡ 8
    → size_word bytes ≡ 0 → are_varying bytes ≡ true
    → Reads bytes (record { element_size = size_word bytes; elements = parts_from bytes (offset_words bytes) })
reads-varying bytes small third fourth none h =
    let n = count_word bytes in
    let xs = parts_from bytes (offset_words bytes) in
    let v = varying-elements bytes n h in
    let a : Array = record { element_size = size_word bytes; elements = xs } in
    let f : first_at a ≡ 8 + 2 * n = first-varying a none ∙ ap (λ m. 8 + 2 * m) v.0 in
    let all : length (join (take (length xs) xs)) ≡ length (drop (8 + 2 * n) bytes) = ap (λ ys. length (join ys))
    (take_all (length xs) xs (omega arith)) ∙ ap length v.2 in
    record {
      spells = record {
        small = small;
        count = sym v.0;
        size = refl;
        zero = third;
        eight = fourth;
        offsets = (λ e j l. sym (element-at a j ∙ ap (λ m. m + length (join (take j xs))) f ∙ v.3 j (omega (arith, v.0))));
        fits = omega (arith, f, v.1);
        rest = ap (λ m. drop m bytes) f ∙ sym v.2;
      };
      equal = (λ ne. absurd (ne none));
      end = element-at a (length xs) ∙ omega (arith, f, all, v.1, length-drop (8 + 2 * n) bytes);
    }

reads-equal : (bytes : List ℕ) → ((k : ℕ) → get_or bytes k 0 < 256) → 8 ≤ length bytes → word bytes 4 ≡ 0 → word bytes 6 ≡ 8
    → size_word bytes ≢ 0 → are_equal bytes ≡ true
    → Reads bytes (record { element_size = size_word bytes; elements = equal_parts (size_word bytes) (count_word bytes) (drop 8 bytes) })
reads-equal bytes small least third fourth some h =
    let n = count_word bytes in
    let k = size_word bytes in
    let xs = equal_parts k n (drop 8 bytes) in
    let long : length bytes ≡ 8 + n * k = eqb-true (length bytes) (8 + n * k) h in
    let d = divides k n (drop 8 bytes) (omega (arith, length-drop 8 bytes)) in
    let a : Array = record { element_size = k; elements = xs } in
    let f : first_at a ≡ 8 = first-fixed a some in
    let at : (i : ℕ) → i ≤ length xs → element_at a i ≡ 8 + i * k =
    (λ i l. element-at a i ∙ (let b = d.begin i (omega (arith, d.count)) in omega (arith, f, b))) in
    record {
      spells = record {
        small = small;
        count = sym d.count;
        size = refl;
        zero = third;
        eight = fourth;
        offsets = (λ e. absurd (some e));
        fits = omega (arith, f);
        rest = ap (λ m. drop m bytes) f ∙ sym d.whole;
      };
      equal = (λ ne. at);
      end = at (length xs) (omega arith) ∙ ap (λ m. 8 + m * k) d.count ∙ sym long;
    }

pub reads : (bytes : List ℕ) (a : Array) → ((k : ℕ) → get_or bytes k 0 < 256) → arr bytes ≡ Some a → Reads bytes a
unfolding arr
reads bytes a small is = elim (cases_Bool (is_array bytes)) [
  | inl right ↦ (let same : array_in bytes ≡ a = (let e : Some (array_in bytes) ≡ Some a = rw right at is in cc) in
      subst (Reads bytes) same (here bytes small right))
  | inr wrong ↦ absurd (let e : None ≡ Some a = rw wrong at is in cc)
]
  where
    here : (bytes : List ℕ) → ((k : ℕ) → get_or bytes k 0 < 256) → is_array bytes ≡ true → Reads bytes (array_in bytes)
    here bytes small h =
        let both = and_parts (has_header bytes) (if size_word bytes == 0 then are_varying bytes else are_equal bytes) h in
        let head = and_parts (nat_le 8 (length bytes) && (word bytes 4 == 0)) (word bytes 6 == 8) both.0 in
        let front = and_parts (nat_le 8 (length bytes)) (word bytes 4 == 0) head.0 in
        let least = leb-true 8 (length bytes) front.0 in
        let third = eqb-true (word bytes 4) 0 front.1 in
        let fourth = eqb-true (word bytes 6) 8 head.1 in
        elim (cases_eq (size_word bytes) 0) [
          | inl e ↦ (let q = eq-eqb (size_word bytes) 0 e in rw q (reads-varying bytes small third fourth e (rw q at both.1)))
          | inr ne ↦ (let q = ne_eqb (size_word bytes) 0 ne in rw q (reads-equal bytes small least third fourth ne (rw q at both.1)))
        ]

-- bytes with a header, whose elements fill them, are an array
inner-varying : (bytes : List ℕ) → has_header bytes ≡ true → size_word bytes ≡ 0 → is_array bytes ≡ are_varying bytes
inner-varying bytes h e = ap (λ t. t && (if size_word bytes == 0 then are_varying bytes else are_equal bytes)) h
    ∙ (let q = eq-eqb (size_word bytes) 0 e in rw q refl)

inner-equal : (bytes : List ℕ) → has_header bytes ≡ true → size_word bytes ≢ 0 → is_array bytes ≡ are_equal bytes
inner-equal bytes h ne = ap (λ t. t && (if size_word bytes == 0 then are_varying bytes else are_equal bytes)) h
    ∙ (let q = ne_eqb (size_word bytes) 0 ne in rw q refl)

arr-some : (bytes : List ℕ) → is_array bytes ≡ true → arr bytes ≡ Some (array_in bytes)
unfolding arr
arr-some bytes h = rw h refl

arr-none : (bytes : List ℕ) → is_array bytes ≡ false → arr bytes ≡ None
unfolding arr
arr-none bytes h = rw h refl

pub headed : (bytes : List ℕ) → 8 ≤ length bytes → word bytes 4 ≡ 0 → word bytes 6 ≡ 8 → has_header bytes ≡ true
headed bytes least third fourth =
    and_from (nat_le 8 (length bytes) && (word bytes 4 == 0)) (word bytes 6 == 8)
    (and_from (nat_le 8 (length bytes)) (word bytes 4 == 0) (le-leb 8 (length bytes) least) (eq-eqb (word bytes 4) 0 third))
    (eq-eqb (word bytes 6) 8 fourth)

pub not-headed : (bytes : List ℕ) → has_header bytes ≡ false → arr bytes ≡ None
not-headed bytes h = arr-none bytes (and_left (has_header bytes) (if size_word bytes == 0 then are_varying bytes else are_equal bytes) h)

pub varying-array : (bytes : List ℕ) → has_header bytes ≡ true → size_word bytes ≡ 0 → are_varying bytes ≡ true → arr bytes ≡ Some (array_in bytes)
varying-array bytes h e t = arr-some bytes (inner-varying bytes h e ∙ t)

pub varying-none : (bytes : List ℕ) → has_header bytes ≡ true → size_word bytes ≡ 0 → are_varying bytes ≡ false → arr bytes ≡ None
varying-none bytes h e t = arr-none bytes (inner-varying bytes h e ∙ t)

pub equal-array : (bytes : List ℕ) → has_header bytes ≡ true → size_word bytes ≢ 0 → are_equal bytes ≡ true → arr bytes ≡ Some (array_in bytes)
equal-array bytes h ne t = arr-some bytes (inner-equal bytes h ne ∙ t)

pub equal-none : (bytes : List ℕ) → has_header bytes ≡ true → size_word bytes ≢ 0 → are_equal bytes ≡ false → arr bytes ≡ None
equal-none bytes h ne t = arr-none bytes (inner-equal bytes h ne ∙ t)
