use Rattle.std.proofs.lemmas.List.Elements.{All-more}
use Rattle.geos_image.specs.Ranges.{RoutineFits}
use Rattle.geos_image.specs.Spelling.{routine}
use Rattle.geos_image.proofs.Pushes.{puts-none, puts-more, puts-all, All-none, All-all}
use Rattle.geos_image.proofs.writer.put_routines.Goals as goal

pub loop-r-init : goal.loop-r-init
loop-r-init c = (puts-none routine c.args.out.now.items, All-none RoutineFits)

pub loop-r-preserved : goal.loop-r-preserved
loop-r-preserved c = (
  puts-more routine c.args.routines.now c.loop-r.r-index _ _ _ _ c.loop-r-test.true c.loop-r.invariant.0 c.in_ok-put_routine.ensures.value,
  All-more RoutineFits c.args.routines.now c.loop-r.r-index _ c.loop-r-test.true c.loop-r.invariant.1 c.in_ok-put_routine.ensures.fits,
)

pub returns-clause-value : goal.returns-clause-value
returns-clause-value c = puts-all routine c.args.routines.now c.loop-r.r-index _ _ c.loop-r-test.false c.loop-r.invariant.0

pub returns-clause-fits : goal.returns-clause-fits
returns-clause-fits c = All-all RoutineFits c.args.routines.now c.loop-r.r-index c.loop-r-test.false c.loop-r.invariant.1
