-- The first word of a line from an index on.
use Rattle.std.proofs.Common.{◌≡◌, ◌∙◌, ◌+◌, ◌-◌, ◌<◌, ℕ, not, List, [], ◌∷◌, length, take, drop, sym, ap, subst, arith}
use Rattle.std.proofs.Common.{drop-drop}
use Rattle.std.specs.List.{position_or_len}
use Rattle.std.proofs.lemmas.List.{drop_all}
use Rattle.geos_text.specs.Words.{is_blank, words}
use Rattle.geos_text.proofs.LineLaws.{rest_of}
use Rattle.geos_text.proofs.WordLaws.{words-trimmed, trimmed-starts, words-first}

blanks_of : (line : List ℕ) (from k : ℕ) → k ≡ position_or_len (λ b. not (is_blank b)) (take (length line - from) (drop from line))
    → k ≡ position_or_len (λ b. not (is_blank b)) (drop from line)
blanks_of line from k at = at ∙ ap (position_or_len (λ b. not (is_blank b))) (rest_of line from)

pub word-first : (line : List ℕ) (from k n : ℕ) → k ≡ position_or_len (λ b. not (is_blank b)) (take (length line - from) (drop from line))
    → 0 < length (drop (from + k) line)
    → n ≡ position_or_len is_blank (take (length line - (from + k)) (drop (from + k) line))
    → (0 < n) × (words (drop from line) ≡ take n (drop (from + k) line) ∷ words (drop n (drop (from + k) line)))
word-first line from k n at some ends =
    let rest = drop from line in
    let behind = drop (position_or_len (λ b. not (is_blank b)) rest) rest in
    let same : drop (from + k) line ≡ behind = sym (drop-drop k from line) ∙ ap (λ j. drop j rest) (blanks_of line from k at) in
    let there : 0 < length behind = subst (λ x. 0 < length x) same some in
    let starts = trimmed-starts rest there in
    let place : n ≡ position_or_len is_blank behind = ends ∙ ap (position_or_len is_blank) (rest_of line (from + k) ∙ same) in
    let split : words rest ≡ take (position_or_len is_blank behind) behind ∷ words (drop (position_or_len is_blank behind) behind) =
    sym (words-trimmed rest) ∙ words-first behind starts in (
      subst (λ j. 0 < j) (sym place) starts,
      split
          ∙ ap (λ j. take j behind ∷ words (drop j behind)) (sym place)
          ∙ ap (λ x. take n x ∷ words (drop n x)) (sym same),
    )

pub no-word : (line : List ℕ) (from k : ℕ) → k ≡ position_or_len (λ b. not (is_blank b)) (take (length line - from) (drop from line))
    → from + k ≡ length line → words (drop from line) ≡ []
no-word line from k at end =
    let rest = drop from line in
    let gone : drop (position_or_len (λ b. not (is_blank b)) rest) rest ≡ [] =
    ap (λ j. drop j rest) (sym (blanks_of line from k at)) ∙ drop-drop k from line ∙ drop_all (from + k) line (omega arith) in
    sym (words-trimmed rest) ∙ ap words gone
