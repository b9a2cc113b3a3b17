use Rattle.std.proofs.lemmas.List.Elements.{All-more}
use Rattle.geos_image.specs.Ranges.{PointFits}
use Rattle.geos_image.specs.Spelling.{told}
use Rattle.geos_image.proofs.Pushes.{puts-none, puts-more, puts-all, All-none, All-all}
use Rattle.geos_image.proofs.writer.put_entries.Goals as goal

pub loop-point-init : goal.loop-point-init
loop-point-init c = (puts-none told c.args.out.now.items, All-none PointFits)

pub loop-point-preserved : goal.loop-point-preserved
loop-point-preserved c = (
  puts-more told c.args.points.now c.loop-point.point-index _ _ _ _
      c.loop-point-test.true c.loop-point.invariant.0 c.in_ok-put_entry.ensures.value,
  All-more PointFits c.args.points.now c.loop-point.point-index _ c.loop-point-test.true c.loop-point.invariant.1 c.in_ok-put_entry.ensures.fits,
)

pub returns-clause-value : goal.returns-clause-value
returns-clause-value c = puts-all told c.args.points.now c.loop-point.point-index _ _ c.loop-point-test.false c.loop-point.invariant.0

pub returns-clause-fits : goal.returns-clause-fits
returns-clause-fits c = All-all PointFits c.args.points.now c.loop-point.point-index c.loop-point-test.false c.loop-point.invariant.1
