use Rattle.geos_image.specs.declared.point.Point.{Point}
use Rattle.geos_image.specs.Spelling.{instr}
use Rattle.geos_image.proofs.Pushes.{puts-none, puts-more, puts-all}
use Rattle.geos_image.proofs.writer.put_instrs.Goals as goal

pub loop-point-init : goal.loop-point-init
loop-point-init c = puts-none (λ (point : Point). instr point.instr) c.args.out.now.items

pub loop-point-preserved : goal.loop-point-preserved
loop-point-preserved c =
    puts-more (λ (point : Point). instr point.instr) c.args.points.now c.loop-point.point-index _ _ _ _ c.loop-point-test.true
    c.loop-point.invariant c.in_ok-put_instr.ensures

pub returns : goal.returns
returns c = puts-all (λ (point : Point). instr point.instr) c.args.points.now c.loop-point.point-index _ _
    c.loop-point-test.false c.loop-point.invariant
