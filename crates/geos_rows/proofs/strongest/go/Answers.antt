use Rattle.std.proofs.Common.{None, sym, ◌∙◌, arith}
use Rattle.geos_code.proofs.Bodies.{in-body}
use Rattle.geos_rows.proofs.Strong.{comes-on}
use Rattle.geos_rows.proofs.strongest.go.Goals as goal

pub returns-in-Weaker : goal.returns-in-Weaker
returns-in-Weaker c =
    let body = c.args.body.now in
    let lead = c.in-Some-edge_in.lead in
    let said = c.in-Some-edge_in.ensures in
    comes-on body.image.now body.r c.args.pc c.args.branch lead c.in-Some.row c.args.rows.now c.spread.new.known
    (in-body body c.args.pc c.requires.above c.requires.below) (sym (c.at.ensures None) ∙ c.in-Some.is) said.inside.from said.inside.way
    said.leads said.stays (omega (arith, c.lengths.ensures, said.inside.inside, body.room, body.short)) c.requires.least
    c.spread.result c.spread.ensures.arrives

pub returns-in_default-spread : goal.returns-in_default-spread
returns-in_default-spread c =
    let body = c.args.body.now in
    let lead = c.in-Some-edge_in.lead in
    let said = c.in-Some-edge_in.ensures in
    comes-on body.image.now body.r c.args.pc c.args.branch lead c.in-Some.row c.args.rows.now c.spread.new.known
    (in-body body c.args.pc c.requires.above c.requires.below) (sym (c.at.ensures None) ∙ c.in-Some.is) said.inside.from said.inside.way
    said.leads said.stays (omega (arith, c.lengths.ensures, said.inside.inside, body.room, body.short)) c.requires.least
    c.spread.result c.spread.ensures.arrives
