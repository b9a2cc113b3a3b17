-- Names that are written are read back.
use Rattle.std.proofs.Common.{◌≡◌, ◌∙◌, ◌<◌, ◌≤◌, ℕ, zero, suc, ◌-◌, true, cond, not, ◌&&◌, ◌==◌, nat_le, List, [], ◌∷◌, ◌++◌, length, take, drop, replicate, slice_index, Some, None, unwrap_or, refl, sym, ap, arith}
use Rattle.std.specs.Prelude.{decimal}
use Rattle.std.specs.List.{list_all, position_or_len}
use Rattle.std.specs.Char.{is_ascii_digit, is_ascii_alphabetic}
use Rattle.std.proofs.lemmas.Bool.{and_parts, and_from, true≢false, eqb-true, le-leb}
use Rattle.std.proofs.lemmas.Fmt.{length-decimal-le}
use Rattle.std.proofs.lemmas.List.{length-take, length-drop, take-append-drop}
use Rattle.std.proofs.lemmas.List.Sums.{prefix_len-le-length}
use Rattle.geos_image.specs.Legal.{is_name_byte, is_name as is_image_name, text_end}
use Rattle.geos_listing.specs.Instrs.{label_of as label_text}
use Rattle.geos_text.proofs.LineLaws.{position_or_else}
use Rattle.geos_source.specs.Names.{is_name, name_of}
use Rattle.round_trip.proofs.Spaced.{is_inner, is_word}
use Rattle.round_trip.proofs.NumbersAgain.{TellsInner, all_inner, some_word, decimal-digits, decimal-inner}

-- a word that passes the tests is a name
is_name-from : (word : List ℕ) → length word ≤ 16 → is_ascii_alphabetic (slice_index word 0) ≡ true
    → list_all is_name_byte word ≡ true → is_name word ≡ true
is_name-from word short first bytes =
    let a = nat_le (length word) 16 in
    let b = is_ascii_alphabetic (slice_index word 0) in
    and_from (a && b) (list_all is_name_byte word) (and_from a b (le-leb (length word) 16 short) first) bytes

-- a name in 16 bytes, with zeros after it
abbrev pub padded : List ℕ → List ℕ
padded word = word ++ replicate (16 - length word) 0

name_of-is : (word : List ℕ) → is_name word ≡ true → name_of word ≡ Some (padded word)
unfolding name_of
name_of-is word h = ap (λ b. cond b (Some (padded word)) None) h

-- the bytes of names may be in words
name-inner : (word : List ℕ) → list_all is_name_byte word ≡ true → list_all is_inner word ≡ true
unfolding is_name_byte
name-inner word h =
    let tells : TellsInner is_name_byte = record { tab = refl; feed = refl; return = refl; space = refl; comment = refl } in
    all_inner is_name_byte tells word h

-- ---- a routine's name

all_zeros : (text : List ℕ) → list_all (λ b. b == 0) text ≡ true → text ≡ replicate (length text) 0
all_zeros [] h = refl
all_zeros (b ∷ text) h =
    let p = and_parts (b == 0) (list_all (λ b. b == 0) text) h in
    ap (λ c. c ∷ text) (eqb-true b 0 p.0) ∙ ap (λ bytes. 0 ∷ bytes) (all_zeros text p.1)

-- if a name that is padded with zeros begins with a letter, so does its text
first_of : (len : ℕ) (name : List ℕ) → is_ascii_alphabetic (slice_index name 0) ≡ true → list_all (λ b. b == 0) (drop len name) ≡ true
    → is_ascii_alphabetic (slice_index (take len name) 0) ≡ true
first_of zero [] h zeros = h
first_of zero (b ∷ name) h zeros =
    let p = and_parts (b == 0) (list_all (λ b. b == 0) name) zeros in
    absurd (true≢false (sym h ∙ ap is_ascii_alphabetic (eqb-true b 0 p.0)))
first_of (suc len) [] h zeros = h
first_of (suc len) (b ∷ name) h zeros = h

text_end-within : (name : List ℕ) → length name ≡ 16 → unwrap_or (text_end name) 16 ≤ 16
text_end-within name long =
    let at : unwrap_or (text_end name) 16 ≡ position_or_len (λ b. b == 0) name = ap (λ n. unwrap_or (text_end name) n) (sym long)
    ∙ position_or_else (λ b. b == 0) name in
    omega (arith, at, prefix_len-le-length (λ b. not (b == 0)) name)

-- the parts of a padded name
record NameParts (name text : List ℕ) : Type 0 where
  short : length text ≤ 16
  first : is_ascii_alphabetic (slice_index text 0) ≡ true
  bytes : list_all is_name_byte text ≡ true
  whole : padded text ≡ name

name_parts : (name : List ℕ) → is_image_name name ≡ true → length name ≡ 16 → NameParts name (take (unwrap_or (text_end name) 16) name)
name_parts name legal long =
    let len = unwrap_or (text_end name) 16 in
    let within = text_end-within name long in
    let a = is_ascii_alphabetic (slice_index name 0) in
    let b = list_all is_name_byte (take len name) in
    let c = list_all (λ b. b == 0) (drop len name) in
    let p = and_parts (a && b) c legal in
    let q = and_parts a b p.0 in
    let front : length (take len name) ≡ len = length-take len name ∙ omega (arith, within, long) in
    let rest : length (drop len name) ≡ 16 - length (take len name) = omega (arith, length-drop len name, front, long) in
    let zeros : drop len name ≡ replicate (16 - length (take len name)) 0 = all_zeros (drop len name) p.1 ∙ ap (λ n. replicate n 0) rest in
    record {
      short = omega (arith, front, within);
      first = first_of len name q.0 p.1;
      bytes = q.1;
      whole = ap (λ bytes. take len name ++ bytes) (sym zeros) ∙ take-append-drop len name;
    }

-- a name without the zeros after it is read as this name
pub name_of-again : (name : List ℕ) → is_image_name name ≡ true → length name ≡ 16 → name_of (take (unwrap_or (text_end name) 16) name) ≡ Some name
name_of-again name legal long =
    let text = take (unwrap_or (text_end name) 16) name in
    let parts = name_parts name legal long in
    name_of-is text (is_name-from text parts.short parts.first parts.bytes) ∙ ap (λ bytes. Some bytes) parts.whole

letter_there : (text : List ℕ) → is_ascii_alphabetic (slice_index text 0) ≡ true → 0 < length text
letter_there [] h = absurd (true≢false (sym h))
letter_there (b ∷ text) h = omega arith

pub name-word : (name : List ℕ) → is_image_name name ≡ true → length name ≡ 16 → is_word (take (unwrap_or (text_end name) 16) name) ≡ true
name-word name legal long =
    let text = take (unwrap_or (text_end name) 16) name in
    let parts = name_parts name legal long in
    some_word text (letter_there text parts.first) (name-inner text parts.bytes)

-- ---- labels

-- a label's name in 16 bytes
abbrev pub label_name : ℕ → List ℕ
label_name pc = padded (label_text pc)

digit-name : (b : ℕ) → is_ascii_digit b ≡ true → is_name_byte b ≡ true
unfolding is_name_byte
digit-name b h = rw h refl

digits-name : (text : List ℕ) → list_all is_ascii_digit text ≡ true → list_all is_name_byte text ≡ true
digits-name [] h = refl
digits-name (b ∷ text) h =
    let p = and_parts (is_ascii_digit b) (list_all is_ascii_digit text) h in
    and_from (is_name_byte b) (list_all is_name_byte text) (digit-name b p.0) (digits-name text p.1)

label-is_name : (pc : ℕ) → pc < 4096 → is_name (label_text pc) ≡ true
unfolding is_name_byte
label-is_name pc lt =
    let short : length (decimal pc) ≤ 4 = length-decimal-le 4 pc (omega arith) (omega (arith, lt)) (omega (arith, lt)) in
    is_name-from (label_text pc) (omega (arith, short)) refl (digits-name (decimal pc) (decimal-digits pc (omega (arith, lt))))

-- the word of a label is its name
pub label-again : (pc : ℕ) → pc < 4096 → name_of (label_text pc) ≡ Some (label_name pc)
label-again pc lt = name_of-is (label_text pc) (label-is_name pc lt)

pub label-word : (pc : ℕ) → pc < 4096 → is_word (label_text pc) ≡ true
label-word pc lt = decimal-inner pc (omega (arith, lt))
