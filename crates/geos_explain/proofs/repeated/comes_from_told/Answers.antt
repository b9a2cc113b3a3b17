use Rattle.std.proofs.Common.{◌∙◌, ap, subst}
use Rattle.std.specs.Prelude.{not}
use Rattle.geos_flow.specs.Graphs.{IsFirstInto}
use Rattle.geos_explain.specs.Repeated.{brings, leads_ahead}
use Rattle.geos_explain.proofs.Repeating.{comes-where-none, comes-where-some}
use Rattle.geos_explain.proofs.repeated.comes_from_told.Goals as goal

pub returns-then-is_none : goal.returns-then-is_none
returns-then-is_none c =
    let image = c.args.image.now in
    let refused = c.args.refused.now in
    let row = c.args.row.now in
    let pc = c.args.pc in
    let other = subst (λ i. IsFirstInto i (λ edge end. not (brings image refused row edge)) pc c.first_into-other.result)
    c.graph.ensures c.first_into-other.ensures in
    let ahead = subst (λ i. IsFirstInto i leads_ahead pc c.first_into-ahead.result) c.graph-2.ensures c.first_into-ahead.ensures in
    rw c.is_some.ensures (comes-where-none image refused row pc c.first_into-other.result c.first_into-ahead.result other ahead
    (c.is_none.ensures ∙ ap not c.if-is_none.true))

pub returns-else-is_none : goal.returns-else-is_none
returns-else-is_none c =
    let image = c.args.image.now in
    let refused = c.args.refused.now in
    let row = c.args.row.now in
    let pc = c.args.pc in
    let other = subst (λ i. IsFirstInto i (λ edge end. not (brings image refused row edge)) pc c.first_into-other.result)
    c.graph.ensures c.first_into-other.ensures in
    let ahead = subst (λ i. IsFirstInto i leads_ahead pc c.first_into-ahead.result) c.graph-2.ensures c.first_into-ahead.ensures in
    rw c.if-is_none.false (comes-where-some image refused row pc c.first_into-other.result c.first_into-ahead.result other ahead
    (c.is_none.ensures ∙ ap not c.if-is_none.false))
