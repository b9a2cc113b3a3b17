use Rattle.std.proofs.Common.{◌∙◌, drop, sym}
use Rattle.geos_text.specs.Words.{words}
use Rattle.geos_scripts.proofs.Walked.{none-more}
use Rattle.geos_scripts.proofs.keeping.arrow_of.Goals as goal

pub loop-word-preserved : goal.loop-word-preserved
loop-word-preserved c = (
  c.in-Some.ensures.within.2,
  none-more (words c.args.line.now) (words (drop c.loop-word.at c.args.line.now)) (words (drop c.in-Some.word.end c.args.line.now))
      c.in-Some.word.bytes.now c.in-Some.ensures.some (sym c.is_arrow.ensures ∙ c.if-is_arrow.false) c.loop-word.invariant,
)
