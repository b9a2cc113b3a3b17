use Rattle.std.proofs.Common.{sym, ◌∙◌, arith}
use Rattle.geos_flow.proofs.Into.{into-more, into-nowhere, number-low}
use Rattle.geos_flow.proofs.Steps.{end-inside}
use Rattle.geos_flow.proofs.graph.note.Goals as goal

pub bounds-first-at : goal.bounds-first-at
bounds-first-at c =
    let low = end-inside c.args.image.now c.args.edge c.in-Some.end (sym c.end_in.ensures ∙ c.in-Some.is) in
    omega (arith, low.1, c.requires.short, c.from-at.ensures)

pub bounds-first-at-in-Some : goal.bounds-first-at-in-Some
bounds-first-at-in-Some c =
    let low = end-inside c.args.image.now c.args.edge c.in-Some.end (sym c.end_in.ensures ∙ c.in-Some.is) in
    omega (arith, low.1, c.requires.short, c.from-at.ensures)

pub returns-in-Some : goal.returns-in-Some
returns-in-Some c =
    let ends = sym c.end_in.ensures ∙ c.in-Some.is in
    let low = end-inside c.args.image.now c.args.edge c.in-Some.end ends in
    rw (c.from-at.ensures, c.number_of.ensures) (into-more c.args.image.now c.args.edge c.in-Some.end c.args.first.now c.args.behind.now
    ends (omega (arith, low.1, c.requires.short)) (omega (arith, number-low c.args.edge 4096 c.requires.from)) (omega (arith, low.1, c.requires.short)) c.requires.before)

pub returns-in_default : goal.returns-in_default
returns-in_default c = into-nowhere c.args.image.now c.args.edge c.args.first.now c.args.behind.now (sym c.end_in.ensures ∙ c.in_default.is) c.requires.before
