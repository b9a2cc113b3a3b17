-- A name that is read is one that an image may have.
use Rattle.std.proofs.Common.{◌≡◌, ℕ, zero, suc, ◌+◌, ◌-◌, ◌≤◌, ◌∙◌, Bool, true, not, ◌==◌, ◌&&◌, nat_lt, nat_le, List, [], ◌∷◌, ◌++◌, length, take, drop, replicate, slice_index, Some, None, unwrap_or, refl, ap, subst, arith}
use Rattle.std.specs.List.{list_all, prefix_len}
use Rattle.std.specs.Char.{is_ascii_alphabetic}
use Rattle.std.proofs.lemmas.Bool.{and_parts, and_from, cond_both, ne_eqb, ltb-false, leb-true}
use Rattle.std.proofs.lemmas.List.{length-append, length-replicate}
use Rattle.std.proofs.Math.Seq.{take-append_seam, drop-append_seam}
use Rattle.geos_image.specs.Legal.{is_name_byte, is_name as is_image_name, text_end}
use Rattle.geos_source.specs.Names.{is_name, name_of}
use Rattle.geos_source.proofs.ReadLaws.{some_if}

not_zero : (b : ℕ) → is_name_byte b ≡ true → not (b == 0) ≡ true
unfolding is_name_byte
not_zero zero h = absurd cc
not_zero (suc b) h = rw (ne_eqb (suc b) 0 (λ same. omega arith)) refl

-- the bytes of a name end at the first zero
text_reaches : (word : List ℕ) (k : ℕ) → list_all is_name_byte word ≡ true → prefix_len (λ b. not (b == 0)) (word ++ replicate k 0) ≡ length word
text_reaches [] zero h = refl
text_reaches [] (suc k) h = refl
text_reaches (b ∷ word) k h =
    let parts = and_parts (is_name_byte b) (list_all is_name_byte word) h in
    rw (not_zero b parts.0, text_reaches word k parts.1) (omega arith)

length_padded : (word : List ℕ) (k : ℕ) → length (word ++ replicate k 0) ≡ length word + k
length_padded word k = length-append word (replicate k 0) ∙ ap (λ (n : ℕ). length word + n) (length-replicate k 0)

text_ends : (word : List ℕ) (k : ℕ) → list_all is_name_byte word ≡ true → length word + k ≡ 16
    → unwrap_or (text_end (word ++ replicate k 0)) 16 ≡ length word
text_ends word k h e =
    let long : length (word ++ replicate k 0) ≡ 16 = length_padded word k ∙ e in
    let len = length word in
    let ends = cond_both (nat_lt len 16) (Some len) None (λ o. unwrap_or o 16 ≡ len) (λ within. refl)
    (λ past. omega (arith, ltb-false len 16 past)) in
    rw (text_reaches word k h, long) ends

all_zeros : (k : ℕ) → list_all (λ b. b == 0) (replicate k 0) ≡ true
all_zeros zero = refl
all_zeros (suc k) = all_zeros k

first_stays : (word zeros : List ℕ) → is_ascii_alphabetic (slice_index word 0) ≡ true → is_ascii_alphabetic (slice_index (word ++ zeros) 0) ≡ true
first_stays [] zeros h = absurd cc
first_stays (b ∷ word) zeros h = h

-- a padded name whose text has this length
abbrev is_name_to : List ℕ → ℕ → Bool
is_name_to name len = is_ascii_alphabetic (slice_index name 0) && list_all is_name_byte (take len name) && list_all (λ b. b == 0) (drop len name)

padded : (word : List ℕ) (k : ℕ) → is_ascii_alphabetic (slice_index word 0) ≡ true → list_all is_name_byte word ≡ true → length word + k ≡ 16
    → is_image_name (word ++ replicate k 0) ≡ true
padded word k first bytes e =
    let name = word ++ replicate k 0 in
    let len = length word in
    let front : list_all is_name_byte (take len name) ≡ true = ap (list_all is_name_byte) (take-append_seam word (replicate k 0)) ∙ bytes in
    let back : list_all (λ b. b == 0) (drop len name) ≡ true =
    ap (list_all (λ (b : ℕ). b == 0)) (drop-append_seam word (replicate k 0)) ∙ all_zeros k in
    let letter = is_ascii_alphabetic (slice_index name 0) in
    let bytes-test = list_all is_name_byte (take len name) in
    let zeros-test = list_all (λ (b : ℕ). b == 0) (drop len name) in
    ap (is_name_to name) (text_ends word k bytes e)
    ∙ and_from (letter && bytes-test) zeros-test (and_from letter bytes-test (first_stays word (replicate k 0) first) front) back

-- the tests that a word passes which is a name
record NameParts (word : List ℕ) : Type 0 where
  short : length word ≤ 16
  first : is_ascii_alphabetic (slice_index word 0) ≡ true
  bytes : list_all is_name_byte word ≡ true

name_parts : (word : List ℕ) → is_name word ≡ true → NameParts word
name_parts word h =
    let short = nat_le (length word) 16 in
    let first = is_ascii_alphabetic (slice_index word 0) in
    let p = and_parts (short && first) (list_all is_name_byte word) h in
    let q = and_parts short first p.0 in
    record { short = leb-true (length word) 16 q.0; first = q.1; bytes = p.1 }

-- a name that is read is one that an image may have, in 16 bytes
pub name_of-legal : (word name : List ℕ) → name_of word ≡ Some name → (is_image_name name ≡ true) × (length name ≡ 16)
unfolding name_of
name_of-legal word name e =
    let k = 16 - length word in
    let read = some_if (is_name word) (word ++ replicate k 0) name e in
    let parts = name_parts word read.0 in
    let fills : length word + (16 - length word) ≡ 16 = omega arith in
    let legal : is_image_name (word ++ replicate k 0) ≡ true = padded word k parts.first parts.bytes fills in
    let long : length (word ++ replicate k 0) ≡ 16 = length_padded word k ∙ fills in
    subst (λ (n : List ℕ). (is_image_name n ≡ true) × (length n ≡ 16)) read.1 (legal, long)
