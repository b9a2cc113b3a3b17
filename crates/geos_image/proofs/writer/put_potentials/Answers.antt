use Rattle.std.proofs.lemmas.List.Elements.{All-more}
use Rattle.geos_image.specs.Ranges.{PotentialFits}
use Rattle.geos_image.specs.declared.point.Point.{Point}
use Rattle.geos_image.specs.Spelling.{potential}
use Rattle.geos_image.proofs.Pushes.{puts-none, puts-more, puts-all, All-none, All-all}
use Rattle.geos_image.proofs.writer.put_potentials.Goals as goal

pub loop-point-init : goal.loop-point-init
loop-point-init c = (
  puts-none (λ (point : Point). potential point.potential) c.args.out.now.items,
  All-none (λ (point : Point). PotentialFits point.potential),
)

pub loop-point-preserved : goal.loop-point-preserved
loop-point-preserved c = (
  puts-more (λ (point : Point). potential point.potential) c.args.points.now c.loop-point.point-index _ _ _ _
      c.loop-point-test.true c.loop-point.invariant.0 c.in_ok-put_potential.ensures.value,
  All-more (λ (point : Point). PotentialFits point.potential) c.args.points.now c.loop-point.point-index _
      c.loop-point-test.true c.loop-point.invariant.1 c.in_ok-put_potential.ensures.fits,
)

pub returns-clause-value : goal.returns-clause-value
returns-clause-value c = puts-all (λ (point : Point). potential point.potential) c.args.points.now c.loop-point.point-index
    _ _ c.loop-point-test.false c.loop-point.invariant.0

pub returns-clause-fits : goal.returns-clause-fits
returns-clause-fits c = All-all (λ (point : Point). PotentialFits point.potential) c.args.points.now c.loop-point.point-index
    c.loop-point-test.false c.loop-point.invariant.1
