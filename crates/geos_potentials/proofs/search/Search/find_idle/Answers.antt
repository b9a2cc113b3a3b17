use Rattle.std.proofs.Common.{subst}
use Rattle.geos_code.specs.Code.{IsPcOf}
use Rattle.geos_potentials.specs.Spreads.{ComeBehind, ComeFrom, ForgetsIt}
use Rattle.geos_potentials.proofs.Idling.{notes-idle}
use Rattle.geos_potentials.proofs.search.Search.find_idle.Goals as goal

pub returns-then-goes_round_idle : goal.returns-then-goes_round_idle
returns-then-goes_round_idle c = λ notes.
    let body = c.args.body.now in
    let image = body.image.now in
    let arcs = c.note_edges.new.graph.arcs in
    let classes = c.note.new.self in
    let begins = body.begins in
    c.goes_round_idle.ensures c.if-goes_round_idle.true (notes-idle image body.r c.args.known.now c.args.touched.now arcs c.note_edges.ensures notes classes
    (subst (λ n. ComeBehind arcs n (IsPcOf image body.r) ForgetsIt classes.touched) begins c.note.ensures.touched)
    (subst (λ n. ComeFrom arcs n classes.unset) begins c.note.ensures.unset))
