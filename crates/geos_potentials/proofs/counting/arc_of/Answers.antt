use Rattle.std.proofs.Common.{◌≡◌, ap, ◌∙◌}
use Rattle.geos_image.specs.declared.instr.Instr.{Instr}
use Rattle.geos_verify.proofs.Places.{if_some}
use Rattle.std.specs.Prelude.{slice_get}
use Rattle.geos_potentials.specs.Arcs.{counting_of}
use Rattle.geos_code.specs.Known.{row_of, known_at}
use Rattle.geos_potentials.proofs.counting.arc_of.Goals as goal

pub returns : goal.returns
returns c =
    let body = c.args.body.now in
    let image = body.image.now in
    let leads = c.in_ok-edge.ensures.leads in
    let row = row_of (known_at c.args.known.now c.args.pc) in
    let same : c.instr.result.now ≡ leads.point.instr = if_some (λ point. c.instr.result.now ≡ point.instr)
    (slice_get image.points c.args.pc) leads.point leads.there c.instr.ensures.there in
    record {
      leads = leads;
      stays = c.in_ok-edge.ensures.stays;
      steps = c.called_at.ensures;
      counting = c.counting_over.ensures ∙ ap (λ (i : Instr). counting_of row c.args.touched.now i i.opcode c.args.branch) same;
    }
