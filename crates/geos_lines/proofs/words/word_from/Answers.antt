use Rattle.std.proofs.Common.{◌≡◌, ◌∙◌, ◌+◌, ◌-◌, ◌<◌, ◌≤◌, ◌∷◌, length, take, drop, length-drop, ap, arith}
use Rattle.std.proofs.Common.{drop-drop}
use Rattle.geos_text.specs.Words.{words}
use Rattle.geos_text.proofs.LineLaws.{rest_of}
use Rattle.geos_lines.proofs.WordLaws.{word-first, no-word}
use Rattle.geos_lines.proofs.words.word_from.Goals as goal

pub returns-then-start-line-clause-none : goal.returns-then-start-line-clause-none
returns-then-start-line-clause-none c =
    no-word c.args.line.now c.args.from c.blanks_in_front.result c.blanks_in_front.ensures.place c.if-start-line.true

pub returns-clause-some : goal.returns-clause-some
returns-clause-some c =
    let line = c.args.line.now in
    let from = c.args.from in
    let k = c.blanks_in_front.result in
    let n = c.end_of_word.result in
    let front = ap length (rest_of line from) in
    let some : 0 < length (drop (from + k) line) =
    omega (arith, front, length-drop from line, length-drop (from + k) line, c.blanks_in_front.ensures.within) in
    let first = word-first line from k n c.blanks_in_front.ensures.place some c.end_of_word.ensures.place in
    let long : (from + k) + n - (from + k) ≡ n = omega arith in
    rw long (first.1 ∙ ap (λ x. take n (drop (from + k) line) ∷ words x) (drop-drop n (from + k) line))

pub returns-clause-within : goal.returns-clause-within
returns-clause-within c =
    let line = c.args.line.now in
    let from = c.args.from in
    let k = c.blanks_in_front.result in
    let n = c.end_of_word.result in
    let front = ap length (rest_of line from) in
    let back = ap length (rest_of line (from + k)) in
    let some : 0 < length (drop (from + k) line) =
    omega (arith, front, length-drop from line, length-drop (from + k) line, c.blanks_in_front.ensures.within) in
    let first = word-first line from k n c.blanks_in_front.ensures.place some c.end_of_word.ensures.place in
    let begins : from ≤ from + k = omega arith in
    let long : from + k < (from + k) + n = omega (arith, first.0) in
    let within : (from + k) + n ≤ length line = omega (arith, back, length-drop (from + k) line, c.end_of_word.ensures.within, some) in
    (begins, long, within)
