-- The first word of a line.
use Rattle.std.proofs.Common.{◌≡◌, ◌<◌, inl, inr, ℕ, suc, ◌+◌, Bool, true, false, not, List, [], ◌∷◌, length, get_or, drop, take, filter, length-take, drop-cons, refl, sym, ap, ◌∙◌, arith}
use Rattle.std.specs.List.{All, slice_split, after_first, position_or_len}
use Rattle.std.proofs.lemmas.List.Splits.{slice_split_none, slice_split_first, slice_split-cons_yes}
use Rattle.std.proofs.lemmas.List.{take_all, drop_all}
use Rattle.std.proofs.lemmas.List.Sums.{fails_before_first, passes_at_first, prefix_len-le-length}
use Rattle.std.proofs.Math.Nat.{eq-or-lt_of_le}
use Rattle.geos_text.specs.Words.{is_empty, is_blank, words}

words-blank : (b : ℕ) (line : List ℕ) → is_blank b ≡ true → words (b ∷ line) ≡ words line
words-blank b line e = ap (filter (λ w. not (is_empty w))) (slice_split-cons_yes is_blank b line e)

trimmed-cons : (b : ℕ) (line : List ℕ) (blank : Bool) → is_blank b ≡ blank
    → words (drop (position_or_len (λ c. not (is_blank c)) line) line) ≡ words line
    → words (drop (position_or_len (λ c. not (is_blank c)) (b ∷ line)) (b ∷ line)) ≡ words (b ∷ line)
trimmed-cons b line true e rest =
    let one : 1 + position_or_len (λ c. not (is_blank c)) line ≡ suc (position_or_len (λ c. not (is_blank c)) line) = omega arith in
    rw (e, one) rest
trimmed-cons b line false e rest =
    let same : drop (position_or_len (λ c. not (is_blank c)) (b ∷ line)) (b ∷ line) ≡ b ∷ line = rw e refl in
    ap words same

-- blanks at the start of a line add no word
pub words-trimmed : (line : List ℕ) → words (drop (position_or_len (λ b. not (is_blank b)) line) line) ≡ words line
words-trimmed [] = refl
words-trimmed (b ∷ line) = trimmed-cons b line (is_blank b) refl (words-trimmed line)

starts-cons : (b : ℕ) (line : List ℕ) (blank : Bool) → is_blank b ≡ blank
    → (0 < length (drop (position_or_len (λ c. not (is_blank c)) line) line)
    → 0 < position_or_len is_blank (drop (position_or_len (λ c. not (is_blank c)) line) line))
    → 0 < length (drop (position_or_len (λ c. not (is_blank c)) (b ∷ line)) (b ∷ line))
    → 0 < position_or_len is_blank (drop (position_or_len (λ c. not (is_blank c)) (b ∷ line)) (b ∷ line))
starts-cons b line true e rest =
    let one : 1 + position_or_len (λ c. not (is_blank c)) line ≡ suc (position_or_len (λ c. not (is_blank c)) line) = omega arith in
    rw (e, one) rest
starts-cons b line false e rest = λ some.
    let same : drop (position_or_len (λ c. not (is_blank c)) (b ∷ line)) (b ∷ line) ≡ b ∷ line = rw e refl in
    let first : position_or_len is_blank (b ∷ line) ≡ 1 + position_or_len is_blank line = rw e refl in
    rw same (omega (arith, first))

-- after the blanks there is a word, or nothing
pub trimmed-starts : (line : List ℕ) → 0 < length (drop (position_or_len (λ b. not (is_blank b)) line) line)
    → 0 < position_or_len is_blank (drop (position_or_len (λ b. not (is_blank b)) line) line)
trimmed-starts [] = λ some. absurd (omega (arith, some))
trimmed-starts (b ∷ line) = starts-cons b line (is_blank b) refl (trimmed-starts line)

-- a part that is not empty is a word
words-part : (part : List ℕ) (parts : List (List ℕ)) → 0 < length part
    → filter (λ w. not (is_empty w)) (part ∷ parts) ≡ part ∷ filter (λ w. not (is_empty w)) parts
words-part [] parts some = absurd (omega (arith, some))
words-part (b ∷ part) parts some = refl

first-inner : (line : List ℕ) → 0 < position_or_len is_blank line → position_or_len is_blank line < length line
    → words line ≡ take (position_or_len is_blank line) line ∷ words (drop (position_or_len is_blank line) line)
first-inner line some lt =
    let n = position_or_len is_blank line in
    let nonempty : 0 < length (take n line) = omega (arith, length-take n line) in
    let rest : drop n line ≡ get_or line n 0 ∷ drop (suc n) line = drop-cons line n 0 lt in
    let split : words line ≡ take n line ∷ words (after_first is_blank line) = ap (filter (λ w. not (is_empty w)))
    (slice_split_first is_blank line 0 lt) ∙ words-part (take n line) (slice_split is_blank (after_first is_blank line)) nonempty in
    let behind : words (drop n line) ≡ words (drop (suc n) line) = ap words rest
    ∙ words-blank (get_or line n 0) (drop (suc n) line) (passes_at_first is_blank line 0 lt) in
    let next : n + 1 ≡ suc n = omega arith in
    let same : after_first is_blank line ≡ drop (suc n) line = ap (λ k. drop k line) next in
    split ∙ ap (λ ws. take n line ∷ ws) (ap words same ∙ sym behind)

first-whole : (line : List ℕ) → 0 < position_or_len is_blank line → position_or_len is_blank line ≡ length line
    → words line ≡ take (position_or_len is_blank line) line ∷ words (drop (position_or_len is_blank line) line)
first-whole line some end =
    let none : All (λ b. is_blank b ≡ false) line = λ k d lt. fails_before_first is_blank line k d (rw end lt) in
    let one : words line ≡ line ∷ [] = ap (filter (λ w. not (is_empty w))) (slice_split_none is_blank line none)
    ∙ words-part line [] (rw (sym end) some) in
    rw (end, take_all (length line) line (omega arith), drop_all (length line) line (omega arith)) one

-- the first word, and those after it
pub words-first : (line : List ℕ) → 0 < position_or_len is_blank line
    → words line ≡ take (position_or_len is_blank line) line ∷ words (drop (position_or_len is_blank line) line)
words-first line some = elim (eq-or-lt_of_le (prefix_len-le-length (λ b. not (is_blank b)) line))
    [ inl end ↦ first-whole line some end | inr lt ↦ first-inner line some lt ]
