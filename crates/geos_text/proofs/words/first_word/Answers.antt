use Rattle.std.proofs.Common.{arith, ◌∙◌, ap, ◌≡◌, length, ◌<◌, sym, take, drop}
use Rattle.std.specs.Prelude.{[], not, ◌-◌}
use Rattle.std.specs.List.{position_or_len}
use Rattle.geos_text.specs.Words.{is_blank, words}
use Rattle.geos_text.proofs.LineLaws.{rest_of}
use Rattle.geos_text.proofs.WordLaws.{words-trimmed, trimmed-starts, words-first}
use Rattle.geos_text.proofs.words.first_word.Goals as goal

pub returns-then-is_empty-clause-none : goal.returns-then-is_empty-clause-none
returns-then-is_empty-clause-none c =
    let line = c.args.line.now in
    let k = c.blanks_in_front.result in
    let none : take (length line - k) (drop k line) ≡ [] = grind (arith, c.if-is_empty.ensures) in
    let trimmed : words (drop k line) ≡ words line = rw c.blanks_in_front.ensures.place (words-trimmed line) in
    sym trimmed ∙ ap words (sym (rest_of line k) ∙ none)

pub returns-clause-some : goal.returns-clause-some
returns-clause-some c =
    let line = c.args.line.now in
    let k = c.blanks_in_front.result in
    let behind = drop (position_or_len (λ b. not (is_blank b)) line) line in
    let same : take (length line - k) (drop k line) ≡ behind = rest_of line k ∙ ap (λ j. drop j line) c.blanks_in_front.ensures.place in
    let some : 0 < length behind = grind (arith, same, c.if-is_empty.ensures) in
    let first = words-first behind (trimmed-starts line some) in
    let place : c.end_of_word.result ≡ position_or_len is_blank behind = c.end_of_word.ensures.place ∙ ap (position_or_len is_blank) same in
    rw (c.split_at.ensures.front, c.split_at.ensures.back, same, place) (sym (words-trimmed line) ∙ first)
