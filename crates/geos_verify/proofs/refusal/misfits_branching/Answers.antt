use Rattle.std.proofs.Common.{sym, ap, ◌∙◌}
use Rattle.std.specs.Prelude.{not}
use Rattle.geos_verify.specs.Rows.{row_branching}
use Rattle.geos_verify.proofs.Known.{goes-on-given}
use Rattle.geos_verify.proofs.refusal.misfits_branching.Goals as goal

pub returns : goal.returns
returns c =
    let image = c.args.image.now in
    let next = row_branching c.args.i.now c.args.i.now.opcode c.args.row.now in
    ap not c.fits.ensures ∙ rw c.go_to_target.ensures
    (sym (goes-on-given image c.args.i.now.target next c.row.result.now c.row.ensures c.requires.target))
