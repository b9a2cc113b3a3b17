use Rattle.std.proofs.Common.{◌≡◌, ◌<◌, ◌≤◌, suc, Option, Some, ◌⊎◌, inl, inr, ◌∙◌, None, slice_get, sym, ap, subst, arith}
use Rattle.std.specs.Prelude.{slice_index_or}
use Rattle.std.proofs.lemmas.Bool.{cases_lt}
use Rattle.std.proofs.lemmas.Option.{slice_get_within}
use Rattle.geos_image.specs.declared.routine.Routine.{Routine}
use Rattle.geos_image.specs.Parts.{start_of}
use Rattle.geos_image.proofs.Starts.{start_of-next, start_of-le}
use Rattle.geos_verify.specs.Rules.{refusal}
use Rattle.geos_verify.proofs.Places.{place_bounds}
use Rattle.geos_verify.proofs.refused.refused_places.Goals as goal

some-is : (o : Option Routine) (x y : Routine) → o ≡ Some x → o ≡ Some y → x ≡ y
some-is o x y e f = let both : Some x ≡ Some y = sym e ∙ f in cc

pub loop-r-init : goal.loop-r-init
loop-r-init c q pc routine place lt has = absurd (omega (arith, lt))

pub loop-r-preserved : goal.loop-r-preserved
loop-r-preserved c q pc routine place lt has = by_order (cases_lt q c.loop-r.r)
  where
    by_order : (q < c.loop-r.r) ⊎ (c.loop-r.r ≤ q) → slice_index_or c.note_refusals.new.rules pc None ≡ refusal
        c.args.image.now q routine (start_of c.args.image.now.routines q) pc place
    by_order (inl below) =
        let routines = c.args.image.now.routines in
        let bounds = place_bounds (start_of routines q) routine.count pc has.within in
        let next = start_of-next routines q routine has.there in
        let later = start_of-le routines (suc q) c.loop-r.r (omega (arith, below)) in
        c.note_refusals.ensures.others pc (omega (arith, bounds.1, next, later, c.start.ensures.start))
        ∙ c.loop-r.invariant q pc routine place below has
    by_order (inr above) =
        let routines = c.args.image.now.routines in
        let here : q ≡ c.loop-r.r = omega (arith, lt, above) in
        let bounds = place_bounds (start_of routines q) routine.count pc has.within in
        let start_is : c.start.result ≡ start_of routines q = c.start.ensures.start ∙ ap (start_of routines) (sym here) in
        let same : routine ≡ c.routine.result.now = some-is (slice_get routines c.loop-r.r) routine c.routine.result.now
        (ap (slice_get routines) (sym here) ∙ has.there) c.routine.ensures in
        rw (here, same)
        (subst (λ start. slice_index_or c.note_refusals.new.rules pc None ≡ refusal c.args.image.now c.loop-r.r c.routine.result.now start pc place)
        c.start.ensures.start
        (c.note_refusals.ensures.here pc place (omega (arith, start_is, bounds.0))
        (omega (arith, start_is, bounds.1, ap (λ (x : Routine). x.count) same)) has.read))

pub returns : goal.returns
returns c q pc routine place has =
    c.loop-r.invariant q pc routine place
    (omega (arith, slice_get_within c.args.image.now.routines q routine has.there, c.loop-r-test.false, c.count-r-end.ensures.count)) has
