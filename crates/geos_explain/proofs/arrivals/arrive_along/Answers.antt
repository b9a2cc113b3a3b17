use Rattle.std.proofs.Common.{sym, ap, ◌∙◌, subst}
use Rattle.geos_flow.specs.Edges.{end_of}
use Rattle.geos_explain.specs.Lost.{IsHint, arrival}
use Rattle.geos_explain.specs.Places.{place_of}
use Rattle.geos_explain.proofs.Arriving.{behind-hint, set-hints}
use Rattle.geos_explain.proofs.arrivals.arrive_along.Goals as goal

pub returns-then-not-is_stale : goal.returns-then-not-is_stale
returns-then-not-is_stale c =
    let place = place_of c.args.place.now in
    let p = c.args.p in
    let edge = c.args.edge in
    let point = c.args.point.now in
    let known = subst (λ o. IsHint place p edge.from o) (sym (c.arrival-hint.ensures ∙ ap (arrival c.args.arrivals.now) c.from.ensures))
    (c.requires.hints edge.from) in
    let brought = behind-hint place p edge point c.arrival-hint.result c.requires.there (sym c.comes_alike.ensures ∙ c.if-comes_alike.true) known in
    set-hints place p c.args.arrivals.now c.requires.hints c.end_of-end.result c.behind-brought.result
    (subst (λ n. IsHint place p n c.behind-brought.result) (sym c.end_of-end.ensures)
    (subst (λ o. IsHint place p (end_of edge point.instr) o) (sym c.behind-brought.ensures) brought))
