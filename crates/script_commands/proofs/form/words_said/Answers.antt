use Rattle.std.proofs.Common.{◌∙◌, sym, arith}
use Rattle.script_commands.proofs.FormWords.{said-zero, said-all}
use Rattle.script_commands.proofs.form.words_said.Goals as goal

pub loop-count-preserved : goal.loop-count-preserved
loop-count-preserved c = (
  omega (arith, c.loop-count.invariant.0),
  c.loop-count.invariant.1 ∙ said-zero c.args.words.now c.loop-count.count
      (omega (arith, c.loop-count-test.true)) c.if-words-count-eq0.true,
)

pub returns-else-words-count-eq0-clause-count : goal.returns-else-words-count-eq0-clause-count
returns-else-words-count-eq0-clause-count c =
    sym (c.loop-count.invariant.1 ∙ said-all c.args.words.now c.loop-count.count (omega (arith, c.loop-count-test.true)) c.if-words-count-eq0.false)
