use Rattle.std.proofs.Common.{arith, ◌≡◌, length}
use Rattle.std.specs.List.{position_or_len}
use Rattle.std.specs.Prelude.{◌==◌, ◌+◌, ◌<◌}
use Rattle.std.proofs.lemmas.List.{drop_all}
use Rattle.geos_text.proofs.LineLaws.{lines-first, lines-last, rest_of}
use Rattle.geos_text.proofs.lines.first_line.Goals as goal

pub returns-then-end-text-clause-line : goal.returns-then-end-text-clause-line
returns-then-end-text-clause-line c some =
    let text = c.args.text.now in
    let end : position_or_len (λ b. b == 10) text ≡ length text = cc in
    rw (rest_of text c.place_of-end.result, c.if-end-text.true, drop_all (length text) text (omega arith)) (lines-last text some end)

pub returns-else-end-text-clause-line : goal.returns-else-end-text-clause-line
returns-else-end-text-clause-line c some =
    let text = c.args.text.now in
    let place = c.place_of-end.ensures.place in
    let lt : position_or_len (λ b. b == 10) text < length text = omega (arith, c.place_of-end.ensures.within, c.if-end-text.false, place) in
    rw (rest_of text (c.place_of-end.result + 1), c.without_carriage_return.ensures, place) (lines-first text lt)
