-- Words that are written with a blank before each are read back.
use Rattle.std.proofs.Common.{◌≡◌, ◌∙◌, ℕ, Bool, true, false, not, ◌&&◌, ◌==◌, List, [], ◌∷◌, ◌++◌, length, filter, refl, ap, arith}
use Rattle.std.specs.Prelude.{codes}
use Rattle.std.specs.List.{All, list_all, slice_split, before_first, position_or_len}
use Rattle.std.proofs.lemmas.Bool.{and_parts, and_from}
use Rattle.std.proofs.lemmas.List.{append-nil, take_all}
use Rattle.std.proofs.lemmas.List.Elements.{All-nil, All-cons}
use Rattle.std.proofs.lemmas.List.Folds.{list_all-append}
use Rattle.std.proofs.lemmas.List.Splits.{slice_split_none, slice_split_at}
use Rattle.std.proofs.lemmas.List.Sums.{position_or_len_is}
use Rattle.geos_text.specs.Words.{is_empty, is_blank, words}
use Rattle.geos_source.specs.Lines.{said}

-- a byte that ends no line and begins no comment
abbrev pub is_said : ℕ → Bool
is_said b = not (b == 59) && not (b == 10) && not (b == 13)

-- such a byte that is no blank
abbrev pub is_inner : ℕ → Bool
is_inner b = not (is_blank b) && is_said b

-- a word of bytes that words may have
abbrev pub is_word : List ℕ → Bool
is_word word = not (is_empty word) && list_all is_inner word

-- words with a blank before each
abbrev pub spaced : List (List ℕ) → List ℕ
spaced [] = []
spaced (word ∷ words) = 32 ∷ (word ++ spaced words)

-- where a byte passes a test, it fails the other
abbrev Fails : (ℕ → Bool) → (ℕ → Bool) → Type 0
Fails test other = (b : ℕ) → test b ≡ true → other b ≡ false

none_of : (test other : ℕ → Bool) → Fails test other → (text : List ℕ) → list_all test text ≡ true → All (λ b. other b ≡ false) text
none_of test other fails [] h = All-nil (λ b. other b ≡ false)
none_of test other fails (b ∷ text) h =
    let p = and_parts (test b) (list_all test text) h in
    All-cons (λ c. other c ≡ false) b text (fails b p.0) (none_of test other fails text p.1)

false_of : (b : Bool) → not b ≡ true → b ≡ false
false_of false e = refl
false_of true e = absurd cc

pub inner-blank : (b : ℕ) → is_inner b ≡ true → is_blank b ≡ false
inner-blank b h = false_of (is_blank b) ((and_parts (not (is_blank b)) (is_said b) h).0)

pub said-comment : (b : ℕ) → is_said b ≡ true → (b == 59) ≡ false
said-comment b h =
    let one = not (b == 59) in
    let two = not (b == 10) in
    false_of (b == 59) ((and_parts one two ((and_parts (one && two) (not (b == 13)) h).0)).0)

pub said-feed : (b : ℕ) → is_said b ≡ true → (b == 10) ≡ false
said-feed b h =
    let one = not (b == 59) in
    let two = not (b == 10) in
    false_of (b == 10) ((and_parts one two ((and_parts (one && two) (not (b == 13)) h).0)).1)

-- if no element passes the test, all elements come before the first that does
pub before_none : (p : ℕ → Bool) (text : List ℕ) → All (λ b. p b ≡ false) text → before_first p text ≡ text
before_none p text none =
    let end : position_or_len p text ≡ length text = position_or_len_is p text (length text) 0 (omega arith)
    (λ k lt. none k 0 lt) (λ lt. absurd (omega (arith, lt))) in
    rw end (take_all (length text) text (omega arith))

-- a line without comment is taken whole
pub said-whole : (line : List ℕ) → list_all is_said line ≡ true → said line ≡ words line
said-whole line h = ap words (before_none (λ b. b == 59) line (none_of is_said (λ b. b == 59) said-comment line h))

-- a part that is not empty is a word
kept : (word : List ℕ) (parts : List (List ℕ)) → is_word word ≡ true → filter (λ part. not (is_empty part))
    (word ∷ parts) ≡ word ∷ filter (λ part. not (is_empty part)) parts
kept [] parts h = absurd cc
kept (b ∷ word) parts h = refl

-- words with a blank before each except the first are read back
pub words-spaced : (word : List ℕ) (others : List (List ℕ)) → is_word word ≡ true → list_all is_word others ≡ true
    → words (word ++ spaced others) ≡ word ∷ others
words-spaced word [] h all =
    let none = none_of is_inner is_blank inner-blank word ((and_parts (not (is_empty word)) (list_all is_inner word) h).1) in
    ap words (append-nil word) ∙ ap (filter (λ part. not (is_empty part))) (slice_split_none is_blank word none) ∙ kept word [] h
words-spaced word (next ∷ others) h all =
    let none = none_of is_inner is_blank inner-blank word ((and_parts (not (is_empty word)) (list_all is_inner word) h).1) in
    let p = and_parts (is_word next) (list_all is_word others) all in
    let rest = next ++ spaced others in
    ap (filter (λ part. not (is_empty part))) (slice_split_at is_blank word 32 rest none refl)
    ∙ kept word (slice_split is_blank rest) h ∙ ap (λ ws. word ∷ ws) (words-spaced next others p.0 p.1)

word_said : (text : List ℕ) → list_all is_inner text ≡ true → list_all is_said text ≡ true
word_said [] h = refl
word_said (b ∷ text) h =
    let p = and_parts (is_inner b) (list_all is_inner text) h in
    and_from (is_said b) (list_all is_said text) ((and_parts (not (is_blank b)) (is_said b) p.0).1) (word_said text p.1)

pub said-append : (front back : List ℕ) → list_all is_said front ≡ true → list_all is_said back ≡ true → list_all is_said (front ++ back) ≡ true
said-append front back p q = list_all-append is_said front back ∙ and_from (list_all is_said front) (list_all is_said back) p q

-- words and the blanks between them end no line
pub spaced-said : (others : List (List ℕ)) → list_all is_word others ≡ true → list_all is_said (spaced others) ≡ true
spaced-said [] h = refl
spaced-said (word ∷ others) h =
    let p = and_parts (is_word word) (list_all is_word others) h in
    let inner = (and_parts (not (is_empty word)) (list_all is_inner word) p.0).1 in
    said-append word (spaced others) (word_said word inner) (spaced-said others p.1)

pub line-said : (word : List ℕ) (others : List (List ℕ)) → is_word word ≡ true → list_all is_word others ≡ true
    → list_all is_said (word ++ spaced others) ≡ true
line-said word others h all =
    said-append word (spaced others) (word_said word ((and_parts (not (is_empty word)) (list_all is_inner word) h).1)) (spaced-said others all)

-- a line says the words that it is written of
pub said-spaced : (word : List ℕ) (others : List (List ℕ)) → is_word word ≡ true → list_all is_word others ≡ true
    → said (word ++ spaced others) ≡ word ∷ others
said-spaced word others h all = said-whole (word ++ spaced others) (line-said word others h all) ∙ words-spaced word others h all

-- and so does such a line that is indented
pub said-indented : (word : List ℕ) (others : List (List ℕ)) → is_word word ≡ true → list_all is_word others ≡ true
    → said (codes "    " ++ (word ++ spaced others)) ≡ word ∷ others
said-indented word others h all = said-whole (codes "    " ++ (word ++ spaced others)) (line-said word others h all) ∙ words-spaced word others h all
