use Rattle.std.proofs.Common.{arith}
use Rattle.std.proofs.lemmas.List.Elements.{All-more}
use Rattle.geos_image.specs.Ranges.{PointerFits}
use Rattle.geos_image.specs.Spelling.{pointer}
use Rattle.geos_image.proofs.Pushes.{puts-none, puts-more, puts-all, All-none, All-all}
use Rattle.geos_image.proofs.writer.put_pointers.Goals as goal

pub loop-p-init : goal.loop-p-init
loop-p-init c = (puts-none pointer c.args.out.now.items, All-none PointerFits)

pub loop-p-preserved : goal.loop-p-preserved
loop-p-preserved c = (
  puts-more pointer c.args.pointers.now c.loop-p.p-index _ _ _ _ (omega arith) c.loop-p.invariant.0 c.in_ok-put_pointer.ensures.value,
  All-more PointerFits c.args.pointers.now c.loop-p.p-index _ (omega arith) c.loop-p.invariant.1 c.in_ok-put_pointer.ensures.fits,
)

pub returns-clause-value : goal.returns-clause-value
returns-clause-value c = puts-all pointer c.args.pointers.now c.loop-p.p-index _ _ (omega arith) c.loop-p.invariant.0

pub returns-clause-fits : goal.returns-clause-fits
returns-clause-fits c = All-all PointerFits c.args.pointers.now c.loop-p.p-index (omega arith) c.loop-p.invariant.1
