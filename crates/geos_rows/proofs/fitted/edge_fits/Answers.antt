use Rattle.std.proofs.Common.{ℕ, None, refl, sym, ap, ◌∙◌, subst, arith}
use Rattle.std.proofs.lemmas.Bool.{false≢true}
use Rattle.geos_image.specs.declared.row.Row.{Row}
use Rattle.geos_verify.specs.Rows.{after}
use Rattle.geos_code.specs.Code.{IsPcOf}
use Rattle.geos_code.specs.Known.{known_at}
use Rattle.geos_rows.specs.Flow.{fits_known}
use Rattle.geos_code.proofs.Bodies.{in-body}
use Rattle.geos_rows.proofs.Fitting.{has-there, outside-fits, inside-fits, weak-fits}
use Rattle.geos_rows.proofs.fitted.edge_fits.Goals.{else-has_edge-via-then-has_edge+then-body-to+else-to-body, else-has_edge-via-then-has_edge+else-body-to, else-has_edge-via-else-has_edge}
use Rattle.geos_rows.proofs.fitted.edge_fits.Goals as goal

pub after-next-requires-clause-edge : goal.after-next-requires-clause-edge
after-next-requires-clause-edge c =
    let body = c.args.body.now in
    has-there body.image.now body.r c.args.known.now c.args.pc c.args.branch c.instr-i.result.now (omega (arith, body.room))
    c.instr-i.ensures.there (sym c.has_edge.ensures ∙ c.if-has_edge.true)

pub returns-then-to-body-clause-fits : goal.returns-then-to-body-clause-fits
returns-then-to-body-clause-fits c =
    let body = c.args.body.now in
    let image = body.image.now in
    let known = c.args.known.now in
    let pc = c.args.pc in
    let branch = c.args.branch in
    let row = c.in-Some.row in
    let next = c.after-next.result in
    let inside = subst (λ (n : ℕ). IsPcOf image body.r n) c.edge_end-to.ensures
    (in-body body c.edge_end-to.result c.if-body-to.true c.if-to-body.true) in
    inside-fits image body.r known pc branch c.instr-i.result.now (omega (arith, body.room)) c.instr-i.ensures.there
    row next c.fits_known.result (sym (c.at.ensures None) ∙ c.in-Some.is) (sym c.has_edge.ensures ∙ c.if-has_edge.true) inside
    (c.after-next.ensures ∙ ap (λ (x : Row). after image pc x branch) c.clean.ensures.value) (c.fits_known.ensures.value
    ∙ ap (λ o. fits_known o next) (c.at-then-to-body.ensures None ∙ ap (known_at known) c.edge_end-to.ensures))

pub returns-else-has_edge-clause-fits : goal.returns-else-has_edge-clause-fits
returns-else-has_edge-clause-fits c =
    let body = c.args.body.now in
    let image = body.image.now in (
      λ e. outside-fits image body.r c.args.known.now c.args.pc c.args.branch c.instr-i.result.now (omega (arith, body.room))
          c.instr-i.ensures.there (λ has inside.
          let within = subst (λ (n : ℕ). IsPcOf image body.r n) (sym c.edge_end-to.ensures) inside in
          elim c.else-has_edge.branch [
            | else-has_edge-via-then-has_edge+then-body-to+else-to-body w ↦ absurd (omega (arith, within.below, body.ends, w.if-to-body.false))
            | else-has_edge-via-then-has_edge+else-body-to w ↦ absurd (omega (arith, within.above, body.begins, w.if-body-to.false))
            | else-has_edge-via-else-has_edge w ↦ absurd (false≢true (sym w.if-has_edge.false ∙ c.has_edge.ensures ∙ has))
          ]),
      λ fit. refl,
    )

-- where the weakest rows are known
pub returns-then-to-body-clause-weak : goal.returns-then-to-body-clause-weak
returns-then-to-body-clause-weak c = λ weak.
    let body = c.args.body.now in
    let image = body.image.now in
    let known = c.args.known.now in
    let pc = c.args.pc in
    let branch = c.args.branch in
    let row = c.in-Some.row in
    let next = c.after-next.result in
    let inside = subst (λ (n : ℕ). IsPcOf image body.r n) c.edge_end-to.ensures
    (in-body body c.edge_end-to.result c.if-body-to.true c.if-to-body.true) in
    weak-fits image body.r known pc branch c.instr-i.result.now (omega (arith, body.room)) c.instr-i.ensures.there
    row next c.fits_known.result (sym (c.at.ensures None) ∙ c.in-Some.is) (sym c.has_edge.ensures ∙ c.if-has_edge.true) inside
    (c.after-next.ensures ∙ ap (λ (x : Row). after image pc x branch) c.clean.ensures.value)
    (λ first read alike. c.fits_known.ensures.weak first (c.at-then-to-body.ensures None ∙ ap (known_at known) c.edge_end-to.ensures ∙ read) alike)
    weak
