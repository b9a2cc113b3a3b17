use Rattle.std.proofs.Common.{◌<◌, ◌≤◌, ℕ, [], length, refl, subst, arith}
use Rattle.std.specs.List.{All}
use Rattle.std.proofs.lemmas.List.{take_all}
use Rattle.geos_image.specs.Ranges.{RoutineFits}
use Rattle.geos_listing.specs.Listing.{listed_routine}
use Rattle.geos_listing.proofs.Limits.{All-one_more}
use Rattle.geos_listing.proofs.Texts.{texts_below-step}
use Rattle.geos_listing.proofs.listing.list.Goals as goal

pub loop-r-preserved : goal.loop-r-preserved
loop-r-preserved c =
    let within : c.loop-r.r < length c.args.image.now.routines = omega (arith, c.loop-r-test.true, c.count-r-end.ensures.count) in (
      texts_below-step [] _ _ _ (λ (r : ℕ). listed_routine c.args.image.now r) c.loop-r.r c.loop-r.invariant.0 c.in_ok-put_routine.ensures.value refl,
      All-one_more RoutineFits c.args.image.now.routines c.loop-r.r within c.loop-r.invariant.1 c.in_ok-put_routine.ensures.fits,
    )

pub returns-clause-fits : goal.returns-clause-fits
returns-clause-fits c =
    let all : length c.args.image.now.routines ≤ c.loop-r.r = omega (arith, c.loop-r-test.false, c.count-r-end.ensures.count) in
    subst (All RoutineFits) (take_all c.loop-r.r c.args.image.now.routines all) c.loop-r.invariant.1
