use Rattle.std.proofs.Common.{◌≡◌, ◌+◌, Option, sym, ap, subst, ◌∙◌}
use Rattle.std.specs.Prelude.{not, IfSome, slice_get}
use Rattle.geos_image.specs.declared.row.Row.{Row}
use Rattle.geos_verify.specs.Rows.{bounded, row_along}
use Rattle.geos_verify.proofs.Known.{goes-on-fits, goes-on-given}
use Rattle.geos_verify.proofs.GivenAgain.{fitted-again}
use Rattle.geos_verify.proofs.refusal.misfits_along.Goals as goal

pub returns-in-None : goal.returns-in-None
returns-in-None c = goes-on-fits c.args.image.now c.args.pc c.args.i.now c.args.row.now c.given.result.now c.requires.here
    c.requires.known c.requires.next c.given.ensures c.in-None.is

pub returns-then-changes_bounds_alone : goal.returns-then-changes_bounds_alone
returns-then-changes_bounds_alone c =
    let image = c.args.image.now in
    let i = c.args.i.now in
    ap not c.keeps_bounds.ensures
    ∙ fitted-again image c.args.pc c.args.row.now (row_along image i i.opcode c.args.row.now) (bounded i i.opcode c.args.row.now)
    c.requires.next (c.repeats.ensures c.if-repeats.true) c.requires.known
    (c.changes_bounds_alone.ensures.alone c.if-changes_bounds_alone.true image c.args.row.now)

pub returns-in-Some : goal.returns-in-Some
returns-in-Some c =
    let image = c.args.image.now in
    let next = row_along image c.args.i.now c.args.i.now.opcode c.args.row.now in
    let given = subst (λ (o : Option Row). IfSome (slice_get image.points (c.args.pc + 1)) (λ point. o ≡ point.row)) c.in-Some.is c.given.ensures in
    ap not c.fits.ensures ∙ rw c.go_along.ensures (sym (goes-on-given image (c.args.pc + 1) next c.in-Some.given given c.requires.next))
