use Rattle.std.proofs.Common.{sym, subst}
use Rattle.geos_code.specs.Code.{IsPcOf}
use Rattle.geos_potentials.specs.Numbers.{numbers_of}
use Rattle.geos_potentials.specs.Spreads.{ComeBehind, ComeFrom, ForgetsIt}
use Rattle.geos_potentials.proofs.Demand.{for-loops}
use Rattle.geos_potentials.proofs.Idling.{notes-idle}
use Rattle.geos_potentials.proofs.Priced.{found-least}
use Rattle.geos_potentials.proofs.search.Search.find.Goals as goal

pub returns-in-Err-clause-way : goal.returns-in-Err-clause-way
returns-in-Err-clause-way c = λ notes.
    let body = c.args.body.now in
    let image = body.image.now in
    let arcs = c.note_edges.new.graph.arcs in
    let stay = c.find.ensures in
    let touched = subst (ComeBehind arcs body.start (IsPcOf image body.r) ForgetsIt) (sym stay.touched) c.note.ensures.touched in
    let unset = subst (ComeFrom arcs body.start) (sym stay.unset) c.note.ensures.unset in
    let begins = body.begins in
    c.halt_at.ensures (notes-idle image body.r c.args.known.now c.args.touched.now arcs c.note_edges.ensures notes c.find.new.classes
    (subst (λ n. ComeBehind arcs n (IsPcOf image body.r) ForgetsIt c.find.new.classes.touched) begins touched)
    (subst (λ n. ComeFrom arcs n c.find.new.classes.unset) begins unset))

pub returns-then-are_paid-clause-least : goal.returns-then-are_paid-clause-least
returns-then-are_paid-clause-least c =
    let body = c.args.body.now in
    let units = c.pay.new.self.units in
    found-least body.image.now body.r c.args.known.now units.pay units.lengths.ways
    (c.in-Ok.ensures.least c.args.known.now c.args.touched.now c.note_edges.ensures)
    (numbers_of c.put_potentials.new.potentials) (c.put_potentials.ensures.put c.if-not-put_potentials.false)

pub returns-then-are_paid-clause-wanted : goal.returns-then-are_paid-clause-wanted
returns-then-are_paid-clause-wanted c =
    let body = c.args.body.now in
    for-loops body.image.now body.r c.args.known.now c.args.touched.now c.note_edges.new.graph.arcs c.note_edges.ensures c.pay.new.self.units.pay
    (numbers_of c.put_potentials.new.potentials).coefficients c.in-Ok.ensures.wanted
    (λ pc within. (c.put_potentials.ensures.put c.if-not-put_potentials.false pc within).1)
