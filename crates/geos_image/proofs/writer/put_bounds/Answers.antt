use Rattle.std.proofs.Common.{rules, arith}
use Rattle.std.proofs.lemmas.List.Elements.{All-more}
use Rattle.geos_image.specs.Ranges.{IsWord}
use Rattle.geos_image.specs.Spelling.{word}
use Rattle.geos_image.proofs.Pushes.{puts-none, puts-more, puts-all, All-none, All-all}
use Rattle.geos_image.proofs.writer.put_bounds.Goals as goal

pub loop-n-init : goal.loop-n-init
loop-n-init c = (puts-none word c.args.out.now.items, All-none IsWord)

pub loop-n-preserved : goal.loop-n-preserved
loop-n-preserved c = (
  puts-more word c.args.bounds.now c.loop-n.n-index 0 _ _ _ (omega arith) c.loop-n.invariant.0 c.in_ok-put_word.ensures,
  All-more IsWord c.args.bounds.now c.loop-n.n-index 0 (omega arith) c.loop-n.invariant.1 (search rules),
)

pub returns-clause-value : goal.returns-clause-value
returns-clause-value c = puts-all word c.args.bounds.now c.loop-n.n-index _ _ (omega arith) c.loop-n.invariant.0

pub returns-clause-fits : goal.returns-clause-fits
returns-clause-fits c = All-all IsWord c.args.bounds.now c.loop-n.n-index (omega arith) c.loop-n.invariant.1
