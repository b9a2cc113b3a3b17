use Rattle.std.proofs.Common.{None, sym, ◌∙◌, arith}
use Rattle.geos_code.proofs.Bodies.{in-body}
use Rattle.geos_rows.proofs.Flows.{spreads-on}
use Rattle.geos_rows.proofs.Joinable.{goes-alike, brings-alike}
use Rattle.geos_rows.proofs.flow.spread_ahead.Goals as goal

pub returns-clause-spreads : goal.returns-clause-spreads
returns-clause-spreads c =
    let body = c.args.body.now in
    let lead = c.in-Some-edge_in.lead in
    let said = c.in-Some-edge_in.ensures in
    rw c.has_joined.ensures
    (spreads-on body.image.now body.r c.args.pc c.args.branch lead c.in-Some.row c.args.known.now c.spread.new.known
    c.spread.result (sym (c.at.ensures None) ∙ c.in-Some.is) said.inside.from said.inside.way said.leads said.stays
    (omega (arith, c.if-lead-pc.false)) c.spread.ensures.arrives)

pub returns-clause-alike : goal.returns-clause-alike
returns-clause-alike c = λ meet all.
    let body = c.args.body.now in
    let image = body.image.now in
    let lead = c.in-Some-edge_in.lead in
    let said = c.in-Some-edge_in.ensures in
    let comes = all c.args.pc c.in-Some.row (in-body body c.args.pc c.requires.above c.requires.below) (sym (c.at.ensures None) ∙ c.in-Some.is) in
    let goes = goes-alike image body.r c.args.pc c.args.branch lead c.in-Some.row said.inside.from said.inside.way said.leads said.stays comes in
    rw c.has_joined.ensures
    (brings-alike image body.r lead c.in-Some.row c.args.known.now c.spread.new.known c.spread.result goes c.spread.ensures.arrives meet all)

pub returns-clause-stays : goal.returns-clause-stays
returns-clause-stays c = λ k lt. c.spread.ensures.stays k (omega (arith, lt, c.if-lead-pc.false))
