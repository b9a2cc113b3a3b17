use Rattle.std.proofs.Common.{None, sym, ◌∙◌, arith}
use Rattle.geos_code.proofs.Bodies.{in-body}
use Rattle.geos_rows.proofs.Joinable.{goes-alike}
use Rattle.geos_rows.proofs.rounds.pass_from.Goals as goal

pub returns : goal.returns
returns c = λ meet all.
    let body = c.args.body.now in
    let image = body.image.now in
    let lead = c.in-Some-edge_in.lead in
    let said = c.in-Some-edge_in.ensures in
    let within = in-body body c.args.pc (omega arith) (omega arith) in
    let comes = all c.args.pc c.in-Some.row within (sym (c.at.ensures None) ∙ c.in-Some.is) in
    let goes = goes-alike image body.r c.args.pc c.args.branch lead c.in-Some.row said.inside.from said.inside.way said.leads said.stays comes in
    rw c.has_joined.ensures (c.pass.ensures.alike goes meet all)
