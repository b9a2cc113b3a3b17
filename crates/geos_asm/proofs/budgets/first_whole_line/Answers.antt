use Rattle.std.proofs.Common.{◌∙◌, ◌≡◌, ◌≤◌, [], length, take, drop, sym, arith}
use Rattle.std.proofs.lemmas.List.{take_all, drop_all}
use Rattle.geos_asm.proofs.BudgetLines.{line-to-feed, line-to-end}
use Rattle.geos_asm.proofs.budgets.first_whole_line.Goals as goal

pub returns-in-Some-clause-line : goal.returns-in-Some-clause-line
returns-in-Some-clause-line c =
    rw (c.split_at.ensures.front, c.split_at.ensures.back) (line-to-feed c.args.text.now c.in-Some.feed (sym c.first_feed.ensures ∙ c.in-Some.is))

pub returns-in-None-clause-line : goal.returns-in-None-clause-line
returns-in-None-clause-line c =
    let text = c.args.text.now in
    let all : length text ≤ length text = omega arith in
    let front : take (length text) text ≡ text = take_all (length text) text all in
    let back : drop (length text) text ≡ [] = drop_all (length text) text all in
    rw (c.split_at-in-None.ensures.front, c.split_at-in-None.ensures.back, front, back)
    (line-to-end text c.requires (sym c.first_feed.ensures ∙ c.in-None.is))
