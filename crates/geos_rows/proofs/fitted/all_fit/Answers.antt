use Rattle.std.proofs.Common.{◌+◌, ℕ, true, false, None, refl, sym, ap, ◌∙◌, subst, arith}
use Rattle.geos_image.specs.declared.routine.Routine.{Routine}
use Rattle.geos_image.specs.Parts.{start_of}
use Rattle.geos_image.proofs.Starts.{some_routine}
use Rattle.geos_code.specs.Known.{known_at}
use Rattle.geos_rows.specs.Flow.{KnownAt, fits_known}
use Rattle.std.proofs.lemmas.Bool.{false≢true}
use Rattle.geos_code.proofs.Bodies.{in-body}
use Rattle.geos_rows.proofs.Fitting.{known-from, fits-more}
use Rattle.geos_rows.proofs.fitted.all_fit.Goals as goal

pub loop-pc-init : goal.loop-pc-init
loop-pc-init c = λ pc branch within lt.
    let body = c.args.body.now in
    absurd (omega (arith, within.above, body.begins))

pub loop-pc-preserved : goal.loop-pc-preserved
loop-pc-preserved c =
    let body = c.args.body.now in
    fits-more body.image.now body.r c.args.known.now c.loop-pc.pc (c.loop-pc.pc + 1) refl c.loop-pc.invariant
    (c.edge_fits.ensures.fits.0 c.if-not-edge_fits.false) (c.edge_fits-in-loop-pc.ensures.fits.0 c.if-not-edge_fits-2.false)

pub returns-clause-fit : goal.returns-clause-fit
returns-clause-fit c = λ e.
    let body = c.args.body.now in
    let image = body.image.now in
    let known = c.args.known.now in
    let entry = c.routine.result.now.entry in
    let first = known-from known body.start entry (ap (λ o. fits_known o entry) (sym (c.at.ensures None))
    ∙ sym c.fits_known.ensures.value ∙ c.if-not-fits_known.false) in
    record {
      entry = λ routine there.
          let is = some_routine c.routine.result.now routine (sym c.routine.ensures ∙ there) in
          subst (λ (x : Routine). KnownAt known (start_of image.routines body.r) x.entry) is
          (subst (λ (n : ℕ). KnownAt known n entry) body.begins first);
      edges = λ pc branch within. c.loop-pc.invariant pc branch within (omega (arith, within.below, body.ends, c.loop-pc-test.false));
    }

-- where the weakest rows are known
pub returns-then-not-fits_known-clause-weak : goal.returns-then-not-fits_known-clause-weak
returns-then-not-fits_known-clause-weak c = λ weak.
    let body = c.args.body.now in
    let known = c.args.known.now in
    let entry = weak.entry c.routine.result.now c.routine.ensures in
    let read = c.at.ensures None ∙ ap (known_at known) body.begins ∙ entry.read in
    absurd (false≢true (sym c.if-not-fits_known.true ∙ c.fits_known.ensures.weak entry.first read entry.alike))

pub returns-then-not-edge_fits-clause-weak : goal.returns-then-not-edge_fits-clause-weak
returns-then-not-edge_fits-clause-weak c = λ weak.
    let pc = c.loop-pc.pc in
    let within = in-body c.args.body.now pc c.loop-pc.auto.pc c.loop-pc-test.true in
    absurd (false≢true (sym c.if-not-edge_fits.true ∙ c.edge_fits.ensures.weak (weak.edges pc false within)))

pub returns-then-not-edge_fits-2-clause-weak : goal.returns-then-not-edge_fits-2-clause-weak
returns-then-not-edge_fits-2-clause-weak c = λ weak.
    let pc = c.loop-pc.pc in
    let within = in-body c.args.body.now pc c.loop-pc.auto.pc c.loop-pc-test.true in
    absurd (false≢true (sym c.if-not-edge_fits-2.true ∙ c.edge_fits-in-loop-pc.ensures.weak (weak.edges pc true within)))
