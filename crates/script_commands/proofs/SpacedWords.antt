-- Words that are written one after another, each after a blank, are read as these words.
use Rattle.std.proofs.Common.{◌≡◌, ℕ, Bool, true, false, not, List, [], ◌∷◌, ◌++◌, filter, cond, refl, sym, ap, ◌∙◌, append-nil}
use Rattle.std.specs.List.{AllByRecursion, onto_first, slice_split}
use Rattle.std.proofs.lemmas.List.Elements.{All-from_recursion}
use Rattle.std.proofs.lemmas.List.Splits.{slice_split_none, slice_split_at, slice_split-cons_yes}
use Rattle.geos_text.specs.Words.{is_blank, is_empty, words}

-- words with one blank before each
abbrev pub spaced : List (List ℕ) → List ℕ
spaced [] = []
spaced (w ∷ ws) = 32 ∷ w ++ spaced ws

-- no byte of a part is a blank
abbrev HasNoBlank : List ℕ → Type 0
HasNoBlank part = AllByRecursion (λ b. is_blank b ≡ false) part

-- a word: some bytes, and none is a blank
abbrev IsWord : List ℕ → Type 0
IsWord word = (is_empty word ≡ false) × HasNoBlank word

-- parts that are cut at blanks have none
onto-clean : (b : ℕ) (parts : List (List ℕ)) → is_blank b ≡ false → AllByRecursion HasNoBlank parts → AllByRecursion HasNoBlank (onto_first b parts)
onto-clean b [] e h = ((e, tt), tt)
onto-clean b (part ∷ parts) e (own, others) = ((e, own), others)

split-step : (b : ℕ) (parts : List (List ℕ)) (blank : Bool) → is_blank b ≡ blank → AllByRecursion HasNoBlank parts
    → AllByRecursion HasNoBlank (cond blank ([] ∷ parts) (onto_first b parts))
split-step b parts true e h = (tt, h)
split-step b parts false e h = onto-clean b parts e h

split-clean : (line : List ℕ) → AllByRecursion HasNoBlank (slice_split is_blank line)
split-clean [] = (tt, tt)
split-clean (b ∷ line) = split-step b (slice_split is_blank line) (is_blank b) refl (split-clean line)

-- those that are not empty are words
kept-words : (parts : List (List ℕ)) → AllByRecursion HasNoBlank parts → AllByRecursion IsWord (filter (λ part. not (is_empty part)) parts)
kept-words [] h = tt
kept-words ([] ∷ parts) (own, others) = kept-words parts others
kept-words ((b ∷ part) ∷ parts) (own, others) = ((refl, own), kept-words parts others)

all-words : (line : List ℕ) → AllByRecursion IsWord (words line)
all-words line = kept-words (slice_split is_blank line) (split-clean line)

-- the filter does not remove a part that is not empty
part-kept : (part : List ℕ) (parts : List (List ℕ)) → is_empty part ≡ false
    → filter (λ w. not (is_empty w)) (part ∷ parts) ≡ part ∷ filter (λ w. not (is_empty w)) parts
part-kept [] parts e = absurd cc
part-kept (b ∷ part) parts e = refl

-- a blank in front says nothing
behind-blank : (line : List ℕ) → words (32 ∷ line) ≡ words line
behind-blank line = ap (filter (λ w. not (is_empty w))) (slice_split-cons_yes is_blank 32 line refl)

-- a word, and the words after it
word-first : (word : List ℕ) (ws : List (List ℕ)) → IsWord word → words (spaced ws) ≡ ws → words (word ++ spaced ws) ≡ word ∷ ws
word-first word [] (some, clean) rest =
    ap words (append-nil word)
    ∙ ap (filter (λ w. not (is_empty w))) (slice_split_none is_blank word (All-from_recursion (λ b. is_blank b ≡ false) word clean))
    ∙ part-kept word [] some
word-first word (w ∷ ws) (some, clean) rest =
    ap (filter (λ w. not (is_empty w)))
    (slice_split_at is_blank word 32 (w ++ spaced ws) (All-from_recursion (λ b. is_blank b ≡ false) word clean) refl)
    ∙ part-kept word (slice_split is_blank (w ++ spaced ws)) some
    ∙ ap (λ vs. word ∷ vs) (sym (behind-blank (w ++ spaced ws)) ∙ rest)

spaced-words : (ws : List (List ℕ)) → AllByRecursion IsWord ws → words (spaced ws) ≡ ws
spaced-words [] h = refl
spaced-words (w ∷ ws) (own, others) = behind-blank (w ++ spaced ws) ∙ word-first w ws own (spaced-words ws others)

-- the words of a line are read again
pub spaced-again : (line : List ℕ) → words (spaced (words line)) ≡ words line
spaced-again line = spaced-words (words line) (all-words line)
