use Rattle.std.proofs.Common.{◌≡◌, true, None, sym, ap, ◌∙◌}
use Rattle.std.specs.Prelude.{slice_index_or}
use Rattle.geos_verify.specs.Rows.{is_empty, slot_state}
use Rattle.geos_rows.proofs.Came.{comes-to}
use Rattle.geos_rows.proofs.Named.{stays-named, call-named}
use Rattle.geos_rows.proofs.emptied.emptied_by.Goals as goal

pub returns-then-is_empty : goal.returns-then-is_empty
returns-then-is_empty c =
    let image = c.args.body.now.image.now in
    let r = c.args.body.now.r in
    let a = c.args.a in
    let lead = c.args.lead in
    let before = c.args.before.now in
    let empty : is_empty (slot_state c.args.row.now a) ≡ true =
    ap is_empty (sym c.slot_state.ensures) ∙ sym c.is_empty.ensures ∙ c.if-not-is_empty.false in
    rw c.from.ensures (stays-named image r a lead.edge.from lead.to lead.edge.branch before.row c.args.row.now (slice_index_or before.emptied a None)
    (c.requires.came.emptied a) c.requires.leads c.requires.stays c.requires.row empty)

pub returns : goal.returns
returns c =
    let image = c.args.body.now.image.now in
    let r = c.args.body.now.r in
    let a = c.args.a in
    let lead = c.args.lead in
    let before = c.args.before.now in
    let empty : is_empty (slot_state c.args.row.now a) ≡ true =
    ap is_empty (sym c.slot_state.ensures) ∙ sym c.is_empty.ensures ∙ c.if-not-is_empty.false in
    call-named image r a lead.edge.from lead.to lead.edge.branch before.row c.args.row.now c.call_beside.result c.call_beside.ensures.at
    c.call_beside.ensures.calls (comes-to image r lead.edge.from before c.requires.came) c.if-lead.false c.requires.leads c.requires.stays
    c.requires.row empty
