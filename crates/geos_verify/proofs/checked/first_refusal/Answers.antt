use Rattle.std.proofs.Common.{◌≡◌, ◌<◌, ◌∙◌, ◌+◌, ◌≤◌, length, slice_get, refl, sym, ap, subst, arith, add-one}
use Rattle.geos_image.specs.Parts.{start_of}
use Rattle.std.proofs.lemmas.List.{length-set}
use Rattle.geos_image.proofs.Instrs.{image_parts}
use Rattle.geos_image.proofs.Starts.{start_of-next}
use Rattle.geos_verify.specs.Rules.{AcceptedBelow}
use Rattle.geos_verify.proofs.Noted.{notes-kept, notes-next}
use Rattle.geos_verify.proofs.Places.{if_some, accepted-before, is_first, all_accepted}
use Rattle.geos_verify.proofs.checked.first_refusal.Goals as goal

pub invariant_of-body-clause-table : goal.invariant_of-body-clause-table
invariant_of-body-clause-table c =
    rw c.from.ensures (notes-kept c.args.image.now c.loop-r.touched c.loop-r.r c.touched_in.result c.loop-r.invariant.1)

pub returns-in-Some-clause-some : goal.returns-in-Some-clause-some
returns-in-Some-clause-some c =
    let image = c.args.image.now in
    let start_is = c.start.ensures.start in
    let end = if_some (λ routine. c.start.result + routine.count ≤ length image.points) (slice_get image.routines c.loop-r.r)
    c.routine.result.now c.routine.ensures c.start.ensures.room in
    is_first image c.loop-r.r c.start.result c.routine.result.now c.in-Some.reject c.routine.ensures start_is
    (subst (AcceptedBelow image) (sym start_is) c.loop-r.invariant.0) end c.in-Some.ensures.within c.in-Some.ensures.some c.in-Some.ensures.first

pub loop-r-preserved : goal.loop-r-preserved
loop-r-preserved c =
    let image = c.args.image.now in
    let start_is = c.start.ensures.start in
    let routine = c.routine.result.now in
    let next = start_of-next image.routines c.loop-r.r routine c.routine.ensures in
    let end : c.start.result + routine.count ≡ start_of image.routines (c.loop-r.r + 1) =
    rw add-one (rw next (ap (λ n. n + routine.count) start_is)) in
    let accepted = subst (AcceptedBelow image) end
    (accepted-before image c.loop-r.r c.start.result routine c.routine.ensures start_is (c.start.result + routine.count) (omega arith)
    (subst (AcceptedBelow image) (sym start_is) c.loop-r.invariant.0) c.in_default.ensures.none) in
    let at = c.loop-r.r in
    let few = (image_parts image c.count-r-end.ensures.legal).few in
    let within : c.loop-r.r < length image.routines = omega (arith, c.loop-r-test.true, c.count-r-end.ensures.count) in
    let notes = notes-next image c.loop-r.touched at c.touched_in.result accepted c.loop-r.invariant.1
    (omega (arith, within, few, c.loop-r.invariant.2), within) c.touched_in.ensures in
    (accepted, rw c.from.ensures notes, length-set c.loop-r.touched c.from.result c.touched_in.result ∙ c.loop-r.invariant.2)

pub returns-clause-none : goal.returns-clause-none
returns-clause-none c =
    let image = c.args.image.now in
    all_accepted image c.loop-r.r (start_of image.routines c.loop-r.r) (omega (arith, c.loop-r-test.false, c.count-r-end.ensures.count))
    refl c.loop-r.invariant.0
