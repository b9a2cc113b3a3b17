use Rattle.std.proofs.Common.{◌∙◌, append_assoc, refl, rules, arith}
use Rattle.std.proofs.lemmas.List.Elements.{All-more}
use Rattle.geos_image.specs.Ranges.{IsLong}
use Rattle.geos_image.specs.Spelling.{long}
use Rattle.geos_image.proofs.Pushes.{puts-none, puts-more, puts-all, All-none, All-all}
use Rattle.geos_image.proofs.writer.put_potential.Goals as goal

pub loop-n-init : goal.loop-n-init
loop-n-init c = (puts-none long _, All-none IsLong)

pub loop-n-preserved : goal.loop-n-preserved
loop-n-preserved c = (
  puts-more long c.args.p.now.coefficients c.loop-n.n-index 0 _ _ _ (omega arith) c.loop-n.invariant.0 c.in_ok-put_long-2.ensures,
  All-more IsLong c.args.p.now.coefficients c.loop-n.n-index 0 (omega arith) c.loop-n.invariant.1 (search rules),
)

pub returns-clause-value : goal.returns-clause-value
returns-clause-value c =
    puts-all long c.args.p.now.coefficients c.loop-n.n-index _ _ (omega arith) c.loop-n.invariant.0 ∙ rw (c.in_ok-put_long.ensures, append_assoc) refl

pub returns-clause-fits : goal.returns-clause-fits
returns-clause-fits c = record {
  constant = search rules;
  coefficients = All-all IsLong c.args.p.now.coefficients c.loop-n.n-index (omega arith) c.loop-n.invariant.1;
  four = search rules;
}
