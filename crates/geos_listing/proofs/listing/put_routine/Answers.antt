use Rattle.std.proofs.Common.{sym, slice_get, arith}
use Rattle.std.specs.Prelude.{IfSome}
use Rattle.std.proofs.lemmas.Grind.{common_steps}
use Rattle.std.proofs.lemmas.Result.{on_ok_weaker}
use Rattle.geos_image.specs.Ranges.{RoutineFits}
use Rattle.geos_listing.proofs.listing.put_routine.Goals as goal

pub returns-clause-value : goal.returns-clause-value
returns-clause-value c = rw (c.routine-routine.ensures, sym c.start.ensures.start) (grind (arith, common_steps))

pub returns-clause-fits : goal.returns-clause-fits
returns-clause-fits c =
    let line = c.in_ok-put_routine_line.ensures in
    let fits : RoutineFits c.routine-routine.result.now = record {
      name = line.name;
      budget = line.budget;
      entry =
          c.in_ok-put_row.ensures.fits;
      exit = c.in_ok-put_row-2.ensures.fits;
    } in
    let there : IfSome (slice_get c.args.image.now.routines c.args.r) RoutineFits = rw c.routine-routine.ensures fits in
    on_ok_weaker c.put_places.result (λ _. there) c.put_places.ensures
